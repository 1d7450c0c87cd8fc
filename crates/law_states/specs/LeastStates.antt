-- What the least state of a settled list is: above every propagated state, with all that the list names, and with nothing that
-- isn't supported; and what the plan of one without a flaw is.
use Rattle.std.specs.Prelude.{List}
use Rattle.model_core.specs.declared.decision.Decision.{Decision}
use Rattle.model_core.specs.declared.model.Model.{Model}
use Rattle.model_core.specs.Lawful.{IsLawful}
use Rattle.model_core.specs.State.{State, IsBelow}
use Rattle.plan_defs.specs.declared.plan.Plan.{Plan}
use Rattle.plan_defs.specs.Broken.{AgreesWith}
use Rattle.plan_defs.specs.Closure.{IsPropagatedState, IsLeast}
use Rattle.plan_defs.specs.Settling.{IsSettled}
use Rattle.plan_defs.specs.Valid.{IsValid}
use Rattle.plan_defs.specs.Flaws.{HasFlaw}
use Rattle.plan_defs.specs.StatePlans.{IsStatePlan}
use Rattle.law_states.specs.Soundness.{IsWellFounded}

-- a propagated state that the two states lie below
pub record HasUpper (model : Model) (decisions : List Decision) (one other : State) : Type 0 where
  pub upper : State
  pub consistent : IsPropagatedState model decisions upper
  pub one_below : IsBelow upper one
  pub other_below : IsBelow upper other

-- two propagated states lie below a third
abbrev pub PropagatedStatesHaveUppers : Type 0
PropagatedStatesHaveUppers =
    (model : Model) (decisions : List Decision) (one other : State)
    → IsLawful model → IsPropagatedState model decisions one → IsPropagatedState model decisions other
    → HasUpper model decisions one other

-- every propagated state lies below the least one, also where resources don't fit in it
abbrev pub LeastStatesAreAbove : Type 0
LeastStatesAreAbove =
    (model : Model) (decisions : List Decision) (state other : State)
    → IsLawful model → IsSettled model decisions → IsLeast model decisions state → IsPropagatedState model decisions other
    → IsBelow state other

-- the least state has what the list names, and nothing that isn't supported in it
abbrev pub LeastStatesAreWellFounded : Type 0
LeastStatesAreWellFounded =
    (model : Model) (decisions : List Decision) (state : State)
    → IsLawful model → IsSettled model decisions → IsLeast model decisions state → IsWellFounded model decisions state

-- the plan of a least state without a flaw is valid, and agrees with the list
abbrev pub PlansOfLeastStatesAreValid : Type 0
PlansOfLeastStatesAreValid =
    (model : Model) (decisions : List Decision) (state : State) (plan : Plan)
    → IsLawful model → IsSettled model decisions → IsLeast model decisions state → (HasFlaw model decisions state → ⊥)
    → IsStatePlan model decisions state plan → IsValid model plan × AgreesWith model plan decisions
