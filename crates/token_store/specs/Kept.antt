-- How the tokens, their trail and their orders are kept.
use Rattle.std.specs.Prelude.{◌≡◌, ℕ, ◌-◌, ◌^◌, ◌<◌, List, [], ◌∷◌, length, take}
use Rattle.eu_name.specs.declared.name.TokenName.{TokenName}
use Rattle.token_store.specs.declared.trail.Edit.{Edit}
use Rattle.token_store.specs.declared.trail.Edit.TheVariants.{Added, Was}
use Rattle.token_store.specs.Tokens.{TokenList, TokenPast, token_names, with_state}
use Rattle.token_store.specs.Orders.{IsRanking, AreChildren}

-- the tokens before the edit
abbrev pub before : Edit → TokenList → TokenList
before Added tokens = take (length tokens - 1) tokens
before (Was place state) tokens = with_state tokens place state

-- the lists from these tokens back along the trail, whose last edit comes first
abbrev pub token_past : TokenList → List Edit → TokenPast
token_past tokens [] = tokens ∷ []
token_past tokens (edit ∷ older) = tokens ∷ token_past (before edit tokens) older

-- the edit can have led to these tokens
abbrev pub CanLead : Edit → TokenList → Type 0
CanLead Added tokens = 0 < length tokens
CanLead (Was place state) tokens = place < length tokens

-- each edit can have led to its tokens, and before all there was none
abbrev pub IsTokenTrail : TokenList → List Edit → Type 0
IsTokenTrail tokens [] = tokens ≡ []
IsTokenTrail tokens (edit ∷ older) = CanLead edit tokens × IsTokenTrail (before edit tokens) older

-- each token has the list of its subgoals
abbrev pub HaveChildren : List TokenName → (ℕ → List ℕ) → Type 0
HaveChildren names children = (parent : ℕ) → AreChildren names parent (children parent)

-- the trail led to the tokens, places are numbers of 32 bits, and the ranking and the subgoals are those of the tokens
pub record AreKeptTokens (tokens : TokenList) (trail : List Edit) (by_rank : List ℕ) (children : ℕ → List ℕ) : Type 0 where
  pub led : IsTokenTrail tokens trail
  pub few : length tokens < 2 ^ 32
  pub ranked : IsRanking (token_names tokens) by_rank
  pub listed : HaveChildren (token_names tokens) children
