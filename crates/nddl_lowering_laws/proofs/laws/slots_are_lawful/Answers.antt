use Rattle.nddl_lowering_laws.proofs.Asking.{slots_lawful}
use Rattle.nddl_lowering_laws.proofs.laws.slots_are_lawful.Goals as goal

pub returns : goal.returns
returns c = slots_lawful
