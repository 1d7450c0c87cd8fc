-- The order of names among the tokens, and which tokens are subgoals of which.
use Rattle.std.specs.Prelude.{◌≡◌, ◌↔◌, ℕ, ◌<◌, ⊤, List, [], ◌∷◌}
use Rattle.std.specs.Prelude.{◌++◌, length, slice_get, slice_index_or, Contains, Some}
use Rattle.eu_name.specs.declared.name.Step.{Step}
use Rattle.eu_name.specs.declared.name.TokenName.{TokenName}
use Rattle.eu_name.specs.NameOrder.{IsTokenBefore}

-- each number comes before all that stand behind it
abbrev pub IsInOrder : (ℕ → ℕ → Type 0) → List ℕ → Type 0
IsInOrder before [] = ⊤
IsInOrder before (one ∷ more) = ((other : ℕ) → Contains more other → before one other) × IsInOrder before more

-- the list of the numbers of which something is true, in an order
pub record IsListOf (before : ℕ → ℕ → Type 0) (is : ℕ → Type 0) (list : List ℕ) : Type 0 where
  pub order : IsInOrder before list
  pub each : (number : ℕ) → Contains list number ↔ is number

-- the name at the place
abbrev pub name_at : List TokenName → ℕ → TokenName
name_at names place = slice_index_or names place (record { root = 0; steps = [] })

-- the name at the one place comes before the name at the other
abbrev pub IsNameBefore : List TokenName → ℕ → ℕ → Type 0
IsNameBefore names one other = IsTokenBefore (name_at names one) (name_at names other)

-- the places of all tokens in the order of their names
abbrev pub IsRanking : List TokenName → List ℕ → Type 0
IsRanking names ranking = IsListOf (IsNameBefore names) (λ place. place < length names) ranking

-- the token at the place has this rank in the order of names
abbrev pub HasRank : List TokenName → ℕ → ℕ → Type 0
HasRank names place rank = (ranking : List ℕ) × (IsRanking names ranking × (slice_get ranking rank ≡ Some place))

-- a token has one rank, and at a rank is one token
pub record RanksAreInverse : Type 0 where
  pub rank : (names : List TokenName) (place one other : ℕ) → HasRank names place one → HasRank names place other → one ≡ other
  pub place : (names : List TokenName) (one other rank : ℕ) → HasRank names one rank → HasRank names other rank → one ≡ other

-- the name is the other one with one step more
abbrev pub IsChildOf : TokenName → TokenName → Type 0
IsChildOf parent name = (step : Step) × ((name.root ≡ parent.root) × (name.steps ≡ parent.steps ++ step ∷ []))

-- the token at the place was added after the one at the parent's place, of which it is a subgoal
abbrev pub IsChildAt : List TokenName → ℕ → ℕ → Type 0
IsChildAt names parent place = (parent < place) × ((place < length names) × IsChildOf (name_at names parent) (name_at names place))

-- the places of the subgoals of the token at this place, in order of adding
abbrev pub AreChildren : List TokenName → ℕ → List ℕ → Type 0
AreChildren names parent children = IsListOf (λ one other. one < other) (IsChildAt names parent) children
