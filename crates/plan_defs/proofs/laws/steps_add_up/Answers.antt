use Rattle.plan_defs.specs.Closure.{IsPropagatedState, IsClosed}
use Rattle.plan_defs.proofs.Approaching.{steps_approach}
use Rattle.plan_defs.proofs.laws.steps_add_up.Goals as goal

pub returns-clause-propagated : goal.returns-clause-propagated
returns-clause-propagated c = λ model decisions. steps_approach model (IsPropagatedState model decisions)

pub returns-clause-closed : goal.returns-clause-closed
returns-clause-closed c = λ model decisions. steps_approach model (IsClosed model decisions)
