-- Tokens by place, and what can be gone back to.
use Rattle.std.specs.Prelude.{◌≡◌, ℕ, zero, suc, ◌+◌, List, [], ◌∷◌, ◌++◌}
use Rattle.std.specs.Prelude.{length, map, slice_get, Option, Some, None, Result, Ok, Err}
use Rattle.eu_name.specs.declared.name.TokenName.{TokenName}
use Rattle.model_core.specs.declared.view.TokenState.{TokenState}
use Rattle.model_core.specs.declared.view.TokenState.TheVariants.{Inactive}
use Rattle.token_store.specs.declared.AddFault.{AddFault}
use Rattle.token_store.specs.declared.AddFault.TheVariants.{Twice, Memory}
use Rattle.token_store.specs.declared.trail.Token.{Token}

-- tokens in order of adding, each with its name
abbrev pub TokenList : Type 0
TokenList = List (TokenName × Token)

-- the lists of tokens that can be gone back to, the present one first
abbrev pub TokenPast : Type 0
TokenPast = List TokenList

-- the first of the lists
abbrev pub tokens_now : TokenPast → TokenList
tokens_now [] = []
tokens_now (tokens ∷ past) = tokens

-- the names, by place
abbrev pub token_names : TokenList → List TokenName
token_names tokens = map (λ token. token.0) tokens

-- the predicates, by place
abbrev pub token_preds : TokenList → List ℕ
token_preds tokens = map (λ token. token.1.pred) tokens

-- the states, by place
abbrev pub token_states : TokenList → List TokenState
token_states tokens = map (λ token. token.1.state) tokens

-- the token at the place has this name
abbrev pub IsNamedAt : TokenList → ℕ → TokenName → Type 0
IsNamedAt tokens place name = slice_get (token_names tokens) place ≡ Some name

-- no token has this name
abbrev pub IsNewName : TokenList → TokenName → Type 0
IsNewName tokens name = (place : ℕ) → IsNamedAt tokens place name → ⊥

-- the one place whose token has this name; none exactly where no token has it
abbrev pub FindsToken : TokenList → TokenName → Option ℕ → Type 0
FindsToken tokens name (Some place) = IsNamedAt tokens place name × ((other : ℕ) → IsNamedAt tokens other name → other ≡ place)
FindsToken tokens name None = IsNewName tokens name

-- the tokens with one more, of which nothing is decided yet
abbrev pub with_token : TokenList → TokenName → ℕ → TokenList
with_token tokens name pred = tokens ++ (name, record { pred = pred; state = Inactive }) ∷ []

-- a token of a new name stands behind the others; where the name is there, and without memory, nothing changes
abbrev pub AddsToken : TokenName → ℕ → TokenPast → Result ℕ AddFault → TokenPast → Type 0
AddsToken name pred old (Ok place) new =
    (place ≡ length (tokens_now old)) × (IsNewName (tokens_now old) name × (new ≡ with_token (tokens_now old) name pred ∷ old))
AddsToken name pred old (Err Twice) new = (new ≡ old) × ((place : ℕ) × IsNamedAt (tokens_now old) place name)
AddsToken name pred old (Err Memory) new = (new ≡ old) × IsNewName (tokens_now old) name

-- the tokens, of which the one at the place has this state
abbrev pub with_state : TokenList → ℕ → TokenState → TokenList
with_state [] place state = []
with_state (token ∷ tokens) zero state = (token.0, record { pred = token.1.pred; state = state }) ∷ tokens
with_state (token ∷ tokens) (suc place) state = token ∷ with_state tokens place state

-- up to this place, counted from the oldest, the lists that can be gone back to are left
pub record LeavesPast (place : ℕ) (old new : TokenPast) : Type 0 where
  pub newer : TokenPast
  pub past : old ≡ newer ++ new
  pub count : length new ≡ place + 1

-- the names of a list that can be gone back to stand in front of those of the present one
abbrev pub NamesStay : TokenPast → Type 0
NamesStay past =
    (newer older : TokenPast) (tokens : TokenList) → past ≡ newer ++ tokens ∷ older
    → (more : List TokenName) × (token_names (tokens_now past) ≡ token_names tokens ++ more)
