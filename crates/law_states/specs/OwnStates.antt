-- The state that a plan is by itself: what it is about, and that there is one.
use Rattle.std.specs.Prelude.{◌↔◌, List, AllPairs, Contains}
use Rattle.eu_name.specs.declared.name.TokenName.{TokenName}
use Rattle.eu_name.specs.NameOrder.{IsTokenBefore}
use Rattle.model_core.specs.declared.decision.Decision.{Decision}
use Rattle.model_core.specs.declared.model.Model.{Model}
use Rattle.model_core.specs.Blocks.{TokenBlock, IsBlockBefore}
use Rattle.model_core.specs.Lawful.{IsLawful}
use Rattle.model_core.specs.State.{State}
use Rattle.plan_defs.specs.declared.plan.Plan.{Plan}
use Rattle.plan_defs.specs.Broken.{AgreesWith}
use Rattle.plan_defs.specs.Closure.{IsClosed}
use Rattle.plan_defs.specs.Plans.{IsPlanOf}
use Rattle.plan_defs.specs.PlanStates.{HasLine, IsOpenBlock, IsPlanState, HasPlanValues}
use Rattle.plan_defs.specs.Valid.{IsValid}

-- the tokens that have a line in the plan, and the blocks that are open by its values, each list in order
pub record Outline (model : Model) (plan : Plan) : Type 0 where
  pub tokens : List TokenName
  pub blocks : List TokenBlock
  pub tokens_order : AllPairs IsTokenBefore tokens
  pub blocks_order : AllPairs IsBlockBefore blocks
  pub are_tokens : (token : TokenName) → Contains tokens token ↔ HasLine plan token
  pub are_blocks : (block : TokenBlock) → Contains blocks block ↔ IsOpenBlock model plan block

-- each plan of a model has an outline: what is open in it can be listed
abbrev pub PlansHaveOutlines : Type 0
PlansHaveOutlines = (model : Model) (plan : Plan) → IsPlanOf model plan → Outline model plan

-- each valid plan has a state of its own
abbrev pub ValidPlansHaveStates : Type 0
ValidPlansHaveStates =
    (model : Model) (plan : Plan)
    → IsLawful model → IsPlanOf model plan → IsValid model plan → (state : State) × IsPlanState model plan state

-- the plan's own state is closed for the decisions, and has all its values
pub record HasClosedState (model : Model) (decisions : List Decision) (plan : Plan) : Type 0 where
  pub state : State
  pub own : IsPlanState model plan state
  pub closed : IsClosed model decisions state
  pub values : HasPlanValues plan state

-- each valid plan that agrees with decisions has a state that is closed for them
abbrev pub ValidPlansHaveClosedStates : Type 0
ValidPlansHaveClosedStates =
    (model : Model) (decisions : List Decision) (plan : Plan)
    → IsLawful model → IsPlanOf model plan → IsValid model plan → AgreesWith model plan decisions
    → HasClosedState model decisions plan
