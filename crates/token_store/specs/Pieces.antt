-- What the pieces of the calls do. The public calls promise none of it.
use Rattle.std.specs.Prelude.{◌≡◌, ◌↔◌, ℕ, ◌<◌, ◌≤◌, List, [], ◌∷◌, ◌++◌}
use Rattle.std.specs.Prelude.{length, slice_index_or, Option, Some, IfSome}
use Rattle.eu_name.specs.declared.name.TokenName.{TokenName}
use Rattle.eu_name.specs.NameOrder.{IsTokenBefore}
use Rattle.token_store.specs.declared.trail.Edit.{Edit}
use Rattle.token_store.specs.Tokens.{TokenList}
use Rattle.token_store.specs.Orders.{name_at, IsChildOf}
use Rattle.token_store.specs.Kept.{before}

-- the last edit of the trail is taken back
pub record TokensStepBack (old new : TokenList × List Edit) : Type 0 where
  pub edit : Edit
  pub trail : old.1 ≡ new.1 ++ edit ∷ []
  pub tokens : new.0 ≡ before edit old.0

-- in the ranking, the tokens of a lower rank come before the name, and none of the others does
pub record Parts (names : List TokenName) (ranking : List ℕ) (name : TokenName) (rank : ℕ) : Type 0 where
  pub within : rank ≤ length ranking
  pub lower : (other : ℕ) → other < rank → IsTokenBefore (name_at names (slice_index_or ranking other 0)) name
  pub upper : (other : ℕ) → rank ≤ other → other < length ranking
      → IsTokenBefore (name_at names (slice_index_or ranking other 0)) name → ⊥

-- the place of the one token whose subgoal the name is, if there is one
pub record FindsParent (names : List TokenName) (name : TokenName) (found : Option ℕ) : Type 0 where
  pub within : IfSome found (λ place. place < length names)
  pub parent : (place : ℕ) → place < length names → (IsChildOf (name_at names place) name ↔ (found ≡ Some place))
