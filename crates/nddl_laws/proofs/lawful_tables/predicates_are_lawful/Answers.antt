use Rattle.nddl_laws.proofs.Listed.{lawful_preds}
use Rattle.nddl_laws.proofs.lawful_tables.predicates_are_lawful.Goals as goal

pub returns : goal.returns
returns c = lawful_preds
