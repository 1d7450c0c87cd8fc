use Rattle.nddl_lowering_laws.proofs.Bodies.{rules_shallow}
use Rattle.nddl_lowering_laws.proofs.laws.rules_are_shallow.Goals as goal

pub returns : goal.returns
returns c = rules_shallow
