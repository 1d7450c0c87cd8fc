-- What is so of each number up to one, and of the state with which a token is kept.
use Rattle.std.proofs.Common.{◌≡◌, Bool, true, false, [], Some, sym, ◌∙◌, subst}
use Rattle.std.specs.Prelude.{AllPairs, Contains, MatchBool, IsTrue, ◌↔◌, ◌≢◌, slice_get}
use Rattle.std.proofs.lemmas.Option.{get_or_from_slice_get}
use Rattle.eu_name.specs.declared.name.TokenName.{TokenName}
use Rattle.model_core.specs.declared.view.TokenState.{TokenState}
use Rattle.eu_name.proofs.Members.{contains_from_get, get_below, get_same}
use Rattle.db_store.proofs.Naming.{same_place}
use Rattle.token_store.specs.Tokens.{TokenList, TokenPast, tokens_now, token_names, token_states}
use Rattle.db_refusals.specs.Judging.{IsKeptAs}
use Rattle.db_refusals.proofs.Told.{isnt, is_so}

pub told_bool : {P : Type 0} (answer : Bool) → (IsTrue answer ↔ P) → MatchBool answer P (P → ⊥)
told_bool true told = is_so told
told_bool false told = isnt told

-- a token is kept with one state
pub kept_same : (tokens : TokenList) → AllPairs (λ one other. one ≢ other) (token_names tokens) → (token : TokenName) (one other : TokenState)
    → IsKeptAs tokens token one → IsKeptAs tokens token other → one ≡ other
kept_same tokens once token one other first second =
    let names = token_names tokens in
    let place : first.place ≡ second.place =
    same_place names once first.place second.place (get_below names first.place token first.named) (get_below names second.place token second.named)
    (get_or_from_slice_get names first.place token nameless first.named ∙ sym (get_or_from_slice_get names second.place token nameless second.named)) in
    get_same (token_states tokens) second.place one other (subst (λ n. slice_get (token_states tokens) n ≡ Some one) place first.kept) second.kept
  where
    nameless : TokenName
    nameless = record { root = 0; steps = [] }

module _ {old new : TokenPast} (same : old ≡ new) (token : TokenName) (state : TokenState) where
  pub kept_alike : IsKeptAs (tokens_now old) token state → IsKeptAs (tokens_now new) token state
  kept_alike kept = subst (λ (past : TokenPast). IsKeptAs (tokens_now past) token state) same kept

  pub kept_nowhere : IsKeptAs (tokens_now new) token state → Contains (token_names (tokens_now old)) token
  kept_nowhere kept = subst (λ (past : TokenPast). Contains (token_names (tokens_now past)) token) (sym same) (contains_from_get (token_names (tokens_now new)) kept.place token kept.named)

-- what is told whatever the entries are, of which there are some
pub told_whatever : {X : Type 0} (Has Is : X → Type 0) (answer : Bool) → ((x : X) → Has x → MatchBool answer (Is x) (Is x → ⊥)) → (x : X) → Has x
    → MatchBool answer ((y : X) → Has y → Is y) (((y : X) → Has y → Is y) → ⊥)
told_whatever Has Is true told x has = told
told_whatever Has Is false told x has = λ all. told x has (all x has)
