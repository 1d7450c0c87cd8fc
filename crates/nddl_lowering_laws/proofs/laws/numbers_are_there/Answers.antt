use Rattle.nddl_lowering_laws.proofs.Joining.{numbers_there}
use Rattle.nddl_lowering_laws.proofs.laws.numbers_are_there.Goals as goal

pub returns : goal.returns
returns c = numbers_there
