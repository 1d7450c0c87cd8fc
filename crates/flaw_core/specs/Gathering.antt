-- The tokens of a state of which something is so.
use Rattle.std.specs.Prelude.{◌≡◌, ℕ, List, AllPairs, Contains, ◌↔◌}
use Rattle.eu_name.specs.declared.name.TokenName.{TokenName}
use Rattle.eu_name.specs.NameOrder.{IsTokenBefore}
use Rattle.model_core.specs.declared.decision.Decision.{Decision}
use Rattle.model_core.specs.declared.model.Model.{Model}
use Rattle.model_core.specs.declared.rule.Slot.{Slot}
use Rattle.model_core.specs.Decided.{IsActive}
use Rattle.model_core.specs.State.{State}
use Rattle.model_core.specs.Tokens.{HasToken}

-- they are all the tokens of the state of which this is so, in order
pub record AreAllThat (Is : TokenName → Type 0) (state : State) (tokens : List TokenName) : Type 0 where
  pub order : AllPairs IsTokenBefore tokens
  pub are : (token : TokenName) → Contains tokens token ↔ (Contains state.tokens token × Is token)

-- the token is active and of the predicate of this number
abbrev pub IsTarget : Model → List Decision → ℕ → TokenName → Type 0
IsTarget model decisions pred token =
    IsActive model decisions token × ((slot : Slot) × HasToken model token slot × (slot.pred ≡ pred))
