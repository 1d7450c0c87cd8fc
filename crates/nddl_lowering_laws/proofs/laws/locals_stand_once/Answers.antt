use Rattle.nddl_lowering_laws.proofs.Numbering.{locals_stand}
use Rattle.nddl_lowering_laws.proofs.laws.locals_stand_once.Goals as goal

pub returns : goal.returns
returns c = locals_stand
