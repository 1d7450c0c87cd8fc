-- What a store is looked at as.
use Rattle.std.specs.Prelude.{◌≡◌, ℕ, ◌<◌, ◌≤◌, List, Option, Some, None, length, slice_get, Contains}
use Rattle.domain_core.specs.Domain.{Domain}
use Rattle.eu_name.specs.declared.name.TokenName.{TokenName}
use Rattle.model_core.specs.declared.decision.Decision.{Decision}
use Rattle.model_core.specs.declared.model.Model.{Model}
use Rattle.model_core.specs.declared.view.TokenState.{TokenState}
use Rattle.model_core.specs.declared.view.TokenState.TheVariants.{Merged}
use Rattle.model_core.specs.State.{State}
use Rattle.token_store.specs.Orders.{HasRank}
use Rattle.db_store.specs.declared.key.VarKey.{VarKey}
use Rattle.db_store.specs.Stores.{Stored, snapshot_of, named_content}
use Rattle.db_refusals.specs.InOrder.{state_of}

-- a store of a model, and the decisions by which its tokens have their states
pub record Seen : Type 0 where
  pub model : Model
  pub stored : Stored
  pub decisions : List Decision

-- what is in the store, as a state
abbrev pub seen_state : Stored → State
seen_state stored = state_of (named_content (snapshot_of stored))

-- the token of this place in order of adding has this rank in the order of names, unless there is no token of this rank
abbrev pub FindsRank : List TokenName → ℕ → Option ℕ → Type 0
FindsRank names rank (Some place) = (place < length names) × HasRank names place rank
FindsRank names rank None = length names ≤ rank

-- the domain of the variable of this key, if there is one
abbrev pub GivesKey : List VarKey → List Domain → VarKey → Option Domain → Type 0
GivesKey keys domains key (Some domain) =
    (number : ℕ) × (slice_get keys number ≡ Some key) × (slice_get domains number ≡ Some domain)
GivesKey keys domains key None = Contains keys key → ⊥

-- the state, if it names a token, names one of the first so many
abbrev pub IsStateBelow : ℕ → TokenState → Type 0
IsStateBelow count (Merged place) = place < count
IsStateBelow count state = Unit {0}

-- the state with the rank of the token that it names in place of the token's place
abbrev pub IsRankedState : List TokenName → TokenState → TokenState → Type 0
IsRankedState names (Merged place) ranked = (rank : ℕ) × (ranked ≡ Merged rank) × HasRank names place rank
IsRankedState names state ranked = ranked ≡ state
