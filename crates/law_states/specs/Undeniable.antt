-- What can't be missing: in each case one of some things is so, where the logic doesn't say which.
use Rattle.std.specs.Prelude.{◌⊎◌, List}
use Rattle.model_core.specs.declared.decision.Decision.{Decision}
use Rattle.model_core.specs.declared.model.Model.{Model}
use Rattle.model_core.specs.declared.refusal.Refusal.{Refusal}
use Rattle.model_core.specs.Lawful.{IsLawful}
use Rattle.model_core.specs.State.{State}
use Rattle.plan_defs.specs.declared.plan.Plan.{Plan}
use Rattle.plan_defs.specs.Closure.{IsLeast, IsCollapsed}
use Rattle.plan_defs.specs.Flaws.{HasFlaw}
use Rattle.plan_defs.specs.Refusals.{IsRefused, IsAdmissible}
use Rattle.plan_defs.specs.Settling.{Settles, IsSettled, IsConflict}
use Rattle.plan_defs.specs.StatePlans.{IsSettledState, IsStatePlan}

-- it can't be that this isn't so
abbrev pub Undeniable : Type 0 → Type 0
Undeniable P = (P → ⊥) → ⊥

-- a settled list leaves nothing, or it has a least state
abbrev pub ListsCollapseOrHaveLeast : Type 0
ListsCollapseOrHaveLeast =
    (model : Model) (decisions : List Decision)
    → IsLawful model → IsSettled model decisions
    → Undeniable (IsCollapsed model decisions ⊎ ((state : State) × IsLeast model decisions state))

-- after a list that has a least state a decision is admissible, or it is refused for a first reason
abbrev pub DecisionsAreAdmissibleOrRefused : Type 0
DecisionsAreAdmissibleOrRefused =
    (model : Model) (decisions : List Decision) (state : State) (decision : Decision)
    → IsLeast model decisions state
    → Undeniable (IsAdmissible model decisions decision ⊎ ((reason : Refusal) × IsRefused model decisions decision reason))

-- something is left of each list when it is settled
abbrev pub ListsSettle : Type 0
ListsSettle = (model : Model) (decisions : List Decision) → Undeniable ((settled : List Decision) × Settles model decisions settled)

-- each list has a conflict
abbrev pub ListsHaveConflicts : Type 0
ListsHaveConflicts =
    (model : Model) (decisions : List Decision)
    → IsLawful model → Undeniable ((conflict : List Decision) × IsConflict model decisions conflict)

-- a state without a flaw has a plan
abbrev pub FlawlessStatesHavePlans : Type 0
FlawlessStatesHavePlans =
    (model : Model) (decisions : List Decision) (state : State)
    → IsSettledState model decisions state → (HasFlaw model decisions state → ⊥)
    → Undeniable ((plan : Plan) × IsStatePlan model decisions state plan)
