use Rattle.plan_defs.specs.Closure.{IsPropagatedState, IsClosed}
use Rattle.plan_defs.proofs.Setting.{setting_approaches}
use Rattle.plan_defs.proofs.laws.narrowing_is_a_step.Goals as goal

pub returns-clause-propagated : goal.returns-clause-propagated
returns-clause-propagated c = λ model decisions old new name domain sets ok within keeps.
    setting_approaches old new name domain sets model (IsPropagatedState model decisions) ok within keeps

pub returns-clause-closed : goal.returns-clause-closed
returns-clause-closed c = λ model decisions old new name domain sets ok within keeps.
    setting_approaches old new name domain sets model (IsClosed model decisions) ok within keeps
