use Rattle.law_examples.proofs.Variables.{granted_closed, x_is_not_granted}
use Rattle.law_examples.proofs.globals.decisions_are_granted.Goals as goal

pub returns-clause-granted : goal.returns-clause-granted
returns-clause-granted c = granted_closed

pub returns-clause-denied : goal.returns-clause-denied
returns-clause-denied c = x_is_not_granted
