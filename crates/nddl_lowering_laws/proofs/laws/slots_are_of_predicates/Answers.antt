use Rattle.nddl_lowering_laws.proofs.Asking.{slots_of_preds}
use Rattle.nddl_lowering_laws.proofs.laws.slots_are_of_predicates.Goals as goal

pub returns : goal.returns
returns c = slots_of_preds
