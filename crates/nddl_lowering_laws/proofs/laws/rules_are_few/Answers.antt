use Rattle.nddl_lowering_laws.proofs.Limits.{rules_few}
use Rattle.nddl_lowering_laws.proofs.laws.rules_are_few.Goals as goal

pub returns : goal.returns
returns c = rules_few
