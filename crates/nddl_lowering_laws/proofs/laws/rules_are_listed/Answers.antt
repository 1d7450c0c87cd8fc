use Rattle.nddl_lowering_laws.proofs.OfPred.{rules_listed}
use Rattle.nddl_lowering_laws.proofs.laws.rules_are_listed.Goals as goal

pub returns : goal.returns
returns c = rules_listed
