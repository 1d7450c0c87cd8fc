-- What is kept of the rules of one token, and of one line.
use Rattle.std.specs.Prelude.{◌≡◌, ℕ, Option, MatchOption}
use Rattle.eu_name.specs.declared.name.TokenName.{TokenName}
use Rattle.eu_name.specs.declared.name.VarName.TheVariants as variables
use Rattle.model_core.specs.declared.model.Model.{Model}
use Rattle.model_core.specs.Blocks.{OfSlot, OfLocal}
use Rattle.model_core.specs.Tokens.{slot_token}
use Rattle.plan_defs.specs.declared.plan.Clause.{Clause}
use Rattle.plan_defs.specs.declared.plan.Place.{Place}
use Rattle.plan_defs.specs.declared.plan.Place.TheVariants as places
use Rattle.plan_defs.specs.declared.plan.Plan.{Plan}
use Rattle.plan_defs.specs.Broken.{AreLesserNames, IsBroken}
use Rattle.plan_defs.specs.Plans.{IsTakenIn}
use Rattle.plan_defs.specs.Valid.{HasDeclaredValue, IsClauseKept}
use Rattle.plan_values.specs.Openings.{StandsInRule}

-- where the slot stands in an open block, its token is taken
abbrev pub IsSlotKept : Model → Plan → TokenName → ℕ → ℕ → Type 0
IsSlotKept model plan token rule slot =
    StandsInRule model plan token rule (OfSlot slot) → IsTakenIn plan (slot_token token rule slot)

-- where the local stands in an open block, it has a value that it is declared with
abbrev pub IsLocalKept : Model → Plan → TokenName → ℕ → ℕ → Type 0
IsLocalKept model plan token rule number =
    StandsInRule model plan token rule (OfLocal number) → HasDeclaredValue model plan (variables.Local token rule number)

-- the place is one of the token of this line
abbrev pub IsOnLine : ℕ → Place → Type 0
IsOnLine line (places.Slot own rule slot) = own ≡ line
IsOnLine line (places.Local own rule number) = own ≡ line
IsOnLine line (places.Item own rule item) = own ≡ line
IsOnLine line place = ⊥

-- of the places of the line the clause is broken at this one, and kept where the names are less
pub record IsLeastOnLine (model : Model) (plan : Plan) (clause : Clause) (line : ℕ) (place : Place) : Type 0 where
  pub on_line : IsOnLine line place
  pub broken : IsBroken model plan clause place
  pub least : (other : Place) → IsOnLine line other → AreLesserNames other place → IsClauseKept model plan clause other

-- the clause is kept at all places of the line, or this is the one with the least names where it is broken
abbrev pub FindsOnLine : Model → Plan → Clause → ℕ → Option Place → Type 0
FindsOnLine model plan clause line found = MatchOption found
    ((place : Place) → IsOnLine line place → IsClauseKept model plan clause place)
    (IsLeastOnLine model plan clause line)
