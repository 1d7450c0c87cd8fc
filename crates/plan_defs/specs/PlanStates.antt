-- The state that a plan is by itself.
use Rattle.std.specs.Prelude.{◌↔◌, ◌⊎◌, ℤ, List, Contains}
use Rattle.domain_core.specs.Domain.{Domain, Has, IsSingle}
use Rattle.eu_name.specs.declared.name.TokenName.{TokenName}
use Rattle.eu_name.specs.declared.name.VarName.{VarName}
use Rattle.model_core.specs.declared.model.Model.{Model}
use Rattle.model_core.specs.Blocks.{TokenBlock}
use Rattle.model_core.specs.Entries.{Entries}
use Rattle.model_core.specs.State.{State, Gives, IsState}
use Rattle.plan_defs.specs.declared.plan.Line.TheVariants as lines
use Rattle.plan_defs.specs.declared.plan.Plan.{Plan}
use Rattle.plan_defs.specs.Claims.{lasts}
use Rattle.plan_defs.specs.Closure.{AreInBase}
use Rattle.plan_defs.specs.Consistency.{IsClaimConsistent}
use Rattle.plan_defs.specs.Plans.{TakesPlaceWith, IsMergedIn, GivesValue, plan_situation}
use Rattle.plan_defs.specs.Support.{IsOpen}

-- the plan has a line for the token
abbrev pub HasLine : Plan → TokenName → Type 0
HasLine plan token =
    ((values : List ℤ) × TakesPlaceWith plan token values)
    ⊎ (IsMergedIn plan token ⊎ Contains plan.lines (lines.Rejected token))

-- the block is open by the values of the plan
abbrev pub IsOpenBlock : Model → Plan → TokenBlock → Type 0
IsOpenBlock model plan block = (entries : Entries) × IsOpen model (plan_situation plan) block entries

-- the state has the tokens of the plan and the blocks that are open in it, each variable to which the plan gives a value has
-- that value alone, and each other one, of a token that is rejected, may be what it is declared with
pub record IsPlanState (model : Model) (plan : Plan) (state : State) : Type 0 where
  pub is_state : IsState model state
  pub tokens : (token : TokenName) → Contains state.tokens token ↔ HasLine plan token
  pub blocks : (block : TokenBlock) → Contains state.blocks block ↔ IsOpenBlock model plan block
  pub values : (name : VarName) (value : ℤ) (domain : Domain)
      → GivesValue plan name value → Gives state name domain → IsSingle domain value
  pub in_base : AreInBase model state
  pub rejected : (token : TokenName)
      → Contains plan.lines (lines.Rejected token) → IsClaimConsistent model state (lasts token)

-- each value of the plan is in the variable's domain
abbrev pub HasPlanValues : Plan → State → Type 0
HasPlanValues plan state =
    (name : VarName) (value : ℤ) → GivesValue plan name value → (domain : Domain) × Gives state name domain × Has domain value
