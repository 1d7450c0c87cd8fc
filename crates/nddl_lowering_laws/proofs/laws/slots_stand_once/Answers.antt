use Rattle.nddl_lowering_laws.proofs.Numbering.{slots_stand}
use Rattle.nddl_lowering_laws.proofs.laws.slots_stand_once.Goals as goal

pub returns : goal.returns
returns c = slots_stand
