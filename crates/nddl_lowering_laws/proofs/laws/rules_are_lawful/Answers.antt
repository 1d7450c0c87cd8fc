use Rattle.nddl_lowering_laws.proofs.Joining.{rules_lawful}
use Rattle.nddl_lowering_laws.proofs.laws.rules_are_lawful.Goals as goal

pub returns : goal.returns
returns c = rules_lawful
