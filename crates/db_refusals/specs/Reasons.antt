-- The first reason against a decision, as it is answered.
use Rattle.std.specs.Prelude.{List, Option, Some, None}
use Rattle.model_core.specs.declared.decision.Decision.{Decision}
use Rattle.model_core.specs.declared.model.Model.{Model}
use Rattle.model_core.specs.declared.refusal.Refusal.{Refusal}
use Rattle.model_core.specs.State.{State}
use Rattle.plan_defs.specs.Refusals.{Hinders, IsFirstRefusal}

-- the first reason that speaks against the decision, or that none does
abbrev pub IsFirstReason : Model → List Decision → State → Decision → Option Refusal → Type 0
IsFirstReason model decisions state decision None =
    (reason : Refusal) → Hinders model decisions state reason decision → ⊥
IsFirstReason model decisions state decision (Some reason) = IsFirstRefusal model decisions state decision reason
