use Rattle.nddl_lowering_laws.proofs.Sighted.{items_have_arities}
use Rattle.nddl_lowering_laws.proofs.seen_laws.items_have_arities.Goals as goal

pub returns : goal.returns
returns c = items_have_arities
