use Rattle.nddl_laws.proofs.Listed.{differing_preds}
use Rattle.nddl_laws.proofs.lawful_tables.predicates_are_distinct.Goals as goal

pub returns : goal.returns
returns c = differing_preds
