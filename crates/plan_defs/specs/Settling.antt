-- What is left of a list of decisions when each has to be admissible after those before it.
use Rattle.std.specs.Prelude.{◌≡◌, List, [], ◌∷◌, ◌++◌, ◌⊎◌}
use Rattle.model_core.specs.declared.decision.Decision.{Decision}
use Rattle.model_core.specs.declared.model.Model.{Model}
use Rattle.plan_defs.specs.Closure.{IsCollapsed, IsLeast}
use Rattle.plan_defs.specs.Refusals.{IsAdmissible}
use Rattle.model_core.specs.State.{State}

-- after the kept decisions, each further one stays that is admissible after those kept
abbrev pub SettlesAfter : Model → List Decision → List Decision → List Decision → Type 0
SettlesAfter model kept [] settled = settled ≡ kept
SettlesAfter model kept (decision ∷ decisions) settled =
    (IsAdmissible model kept decision × SettlesAfter model (kept ++ decision ∷ []) decisions settled)
    ⊎ ((IsAdmissible model kept decision → ⊥) × SettlesAfter model kept decisions settled)

-- what is left of the decisions when each is admissible after those before it
abbrev pub Settles : Model → List Decision → List Decision → Type 0
Settles model decisions settled = SettlesAfter model [] decisions settled

-- nothing has to go
abbrev pub IsSettled : Model → List Decision → Type 0
IsSettled model decisions = Settles model decisions decisions

-- what is left of the list has no closed state
abbrev pub SettlesToCollapse : Model → List Decision → Type 0
SettlesToCollapse model decisions = (settled : List Decision) × Settles model decisions settled × IsCollapsed model settled

-- what is left of the list has a least state
abbrev pub SettlesToLeast : Model → List Decision → Type 0
SettlesToLeast model decisions =
    (settled : List Decision) × Settles model decisions settled × ((state : State) × IsLeast model settled state)

-- from the first decision on, each goes without which the rest still collapses, and then the rest is settled
abbrev pub ReducesTo : Model → List Decision → List Decision → List Decision → Type 0
ReducesTo model kept [] conflict = Settles model kept conflict
ReducesTo model kept (decision ∷ decisions) conflict =
    (SettlesToCollapse model (kept ++ decisions) × ReducesTo model kept decisions conflict)
    ⊎ (SettlesToLeast model (kept ++ decisions) × ReducesTo model (kept ++ decision ∷ []) decisions conflict)

-- the conflict of a list that collapses
abbrev pub IsConflict : Model → List Decision → List Decision → Type 0
IsConflict model decisions conflict = ReducesTo model [] decisions conflict
