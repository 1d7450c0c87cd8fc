-- What is proved of plans.
use Rattle.std.specs.Prelude.{◌≡◌, List}
use Rattle.model_core.specs.declared.decision.Decision.{Decision}
use Rattle.model_core.specs.declared.model.Model.{Model}
use Rattle.plan_defs.specs.declared.plan.Clause.{Clause}
use Rattle.plan_defs.specs.declared.plan.Place.{Place}
use Rattle.plan_defs.specs.declared.plan.Plan.{Plan}
use Rattle.plan_defs.specs.Valid.{IsValid}
use Rattle.model_core.specs.Lawful.{IsLawful}
use Rattle.model_core.specs.State.{State}
use Rattle.plan_defs.specs.Broken.{IsFirstBroken, AgreesWith}
use Rattle.plan_defs.specs.Closure.{IsClosed}
use Rattle.plan_defs.specs.Plans.{IsPlanOf}
use Rattle.plan_defs.specs.PlanStates.{IsPlanState, HasPlanValues}

-- a plan breaks one clause first at most, at one place
abbrev pub FirstBrokenIsOne : Type 0
FirstBrokenIsOne =
    (model : Model) (plan : Plan) (clause other : Clause) (place elsewhere : Place)
    → IsFirstBroken model plan clause place → IsFirstBroken model plan other elsewhere
    → (clause ≡ other) × (place ≡ elsewhere)

-- a valid plan breaks none
abbrev pub ValidPlansBreakNone : Type 0
ValidPlansBreakNone =
    (model : Model) (plan : Plan) (clause : Clause) (place : Place)
    → IsValid model plan → IsFirstBroken model plan clause place → ⊥

-- where a valid plan agrees with decisions, its own state is closed for them, and has all its values
abbrev pub ValidPlansAreClosed : Type 0
ValidPlansAreClosed =
    (model : Model) (decisions : List Decision) (plan : Plan) (state : State)
    → IsLawful model → IsPlanOf model plan → IsValid model plan → AgreesWith model plan decisions → IsPlanState model plan state
    → IsClosed model decisions state × HasPlanValues plan state
