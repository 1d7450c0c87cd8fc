-- What is kept stays kept.
use Rattle.std.proofs.Common.{◌≡◌, ℕ, ◌+◌, ◌^◌, ◌<◌, List, [], ◌∷◌, ◌++◌, length, insert, reverse, slice_get, Option, Some, refl, sym, ap, ◌∙◌, subst, arith, length-append}
use Rattle.std.proofs.lemmas.List.{map-append}
use Rattle.std.specs.Map.{values_of}
use Rattle.eu_name.specs.declared.name.TokenName.{TokenName}
use Rattle.eu_name.specs.NameOrder.{IsTokenBefore, IsStrictTotalOrder}
use Rattle.model_core.specs.declared.view.TokenState.{TokenState}
use Rattle.token_store.specs.declared.trail.Token.{Token}
use Rattle.token_store.specs.declared.trail.Edit.{Edit}
use Rattle.token_store.specs.declared.trail.Edit.TheVariants.{Added, Was}
use Rattle.token_store.specs.Tokens.{TokenList, TokenPast, tokens_now, token_names, IsNewName, with_state}
use Rattle.token_store.specs.Orders.{IsRanking}
use Rattle.token_store.specs.Kept.{token_past, HaveChildren, AreKeptTokens}
use Rattle.token_store.specs.Listed.{with_child}
use Rattle.token_store.specs.Pieces.{Parts, FindsParent}
use Rattle.token_store.proofs.Numbers.{contains_none}
use Rattle.token_store.proofs.Past.{now-past, length-names, length-with_state, names-with_state, state-back, before-added, edited_past, edited_trail, last_edit}
use Rattle.token_store.proofs.Ranks.{ranking_added}
use Rattle.token_store.proofs.Children.{have_none, children_added}

-- no tokens
none_kept : AreKeptTokens [] [] [] (λ parent. [])
none_kept = record {
  led = refl;
  few = omega arith;
  ranked = record { order = tt; each = λ place. ((λ has. absurd (contains_none place has)), (λ below. absurd (omega (arith, below)))) };
  listed = have_none;
}

pub new_kept : (tokens : TokenList) (trail : List Edit) (by_rank : List ℕ) (children : ℕ → List ℕ) → tokens ≡ [] → trail ≡ [] → by_rank ≡ [] → children ≡ (λ parent. [])
    → AreKeptTokens tokens (reverse trail) by_rank children
new_kept tokens trail by_rank children empty short unranked childless =
    subst (λ list. AreKeptTokens list (reverse trail) by_rank children) (sym empty)
    (subst (λ list. AreKeptTokens [] (reverse list) by_rank children) (sym short)
    (subst (λ list. AreKeptTokens [] [] list children) (sym unranked)
    (subst (AreKeptTokens [] [] []) (sym childless) none_kept)))

-- a state was written
pub set_kept : (tokens : TokenList) (trail : List Edit) (by_rank : List ℕ) (children : ℕ → List ℕ) (place : ℕ) (value : Token) (state : TokenState)
    → slice_get (values_of tokens) place ≡ Some value → place < length tokens → AreKeptTokens tokens (reverse trail) by_rank children
    → AreKeptTokens (with_state tokens place state) (reverse (trail ++ Was place value.state ∷ [])) by_rank children
set_kept tokens trail by_rank children place value state at below kept =
    let long = length-with_state tokens place state in
    let names = sym (names-with_state tokens place state) in
    record {
      led = edited_trail tokens (with_state tokens place state) trail (Was place value.state) (state-back tokens place value state at) (omega (arith, below, long)) kept.led;
      few = omega (arith, kept.few, long);
      ranked = subst (λ n. IsRanking n by_rank) names kept.ranked;
      listed = subst (λ n. HaveChildren n children) names kept.listed;
    }

pub set_past : (tokens : TokenList) (trail : List Edit) (view : TokenPast) (place : ℕ) (value : Token) (state : TokenState)
    → slice_get (values_of tokens) place ≡ Some value → token_past tokens (reverse trail) ≡ view
    → token_past (with_state tokens place state) (reverse (trail ++ Was place value.state ∷ [])) ≡ with_state (tokens_now view) place state ∷ view
set_past tokens trail view place value state at is =
    edited_past tokens (with_state tokens place state) trail (Was place value.state) (state-back tokens place value state at)
    ∙ ap (λ past. with_state tokens place state ∷ past) is
    ∙ ap (λ list. with_state list place state ∷ view) (sym (now-past tokens (reverse trail)) ∙ ap tokens_now is)

-- a token was added
pub added_kept : IsStrictTotalOrder IsTokenBefore → (tokens : TokenList) (trail : List Edit) (by_rank : List ℕ) (children : ℕ → List ℕ) (name : TokenName) (token : Token)
    (rank : ℕ) (found : Option ℕ) → AreKeptTokens tokens (reverse trail) by_rank children → IsNewName tokens name → length tokens + 1 < 2 ^ 32
    → Parts (token_names tokens) by_rank name rank → FindsParent (token_names tokens) name found
    → AreKeptTokens (tokens ++ (name, token) ∷ []) (reverse (trail ++ Added ∷ [])) (insert by_rank rank (length tokens)) (with_child children found (length tokens))
added_kept law tokens trail by_rank children name token rank found kept new few parts finds =
    let names : token_names (tokens ++ (name, token) ∷ []) ≡ token_names tokens ++ name ∷ [] = map-append (λ (t : TokenName × Token). t.0) tokens ((name, token) ∷ []) in
    let long : length (tokens ++ (name, token) ∷ []) ≡ length tokens + 1 = length-append tokens ((name, token) ∷ []) in
    record {
      led = edited_trail tokens (tokens ++ (name, token) ∷ []) trail Added (before-added tokens (name, token)) (omega (arith, long)) kept.led;
      few = omega (arith, few, long);
      ranked = subst (λ n. IsRanking n (insert by_rank rank (length tokens))) (sym names)
          (subst (λ n. IsRanking (token_names tokens ++ name ∷ []) (insert by_rank rank n)) (length-names tokens)
          (ranking_added law (token_names tokens) by_rank name rank kept.ranked parts new));
      listed = subst (λ n. HaveChildren n (with_child children found (length tokens))) (sym names)
          (subst (λ n. HaveChildren (token_names tokens ++ name ∷ []) (with_child children found n)) (length-names tokens)
          (children_added (token_names tokens) name children found kept.listed finds));
    }

pub added_past : (tokens : TokenList) (trail : List Edit) (view : TokenPast) (name : TokenName) (token : Token)
    → token_past tokens (reverse trail) ≡ view
    → token_past (tokens ++ (name, token) ∷ []) (reverse (trail ++ Added ∷ [])) ≡ (tokens_now view ++ (name, token) ∷ []) ∷ view
added_past tokens trail view name token is =
    edited_past tokens (tokens ++ (name, token) ∷ []) trail Added (before-added tokens (name, token))
    ∙ ap (λ past. (tokens ++ (name, token) ∷ []) ∷ past) is
    ∙ ap (λ list. (list ++ (name, token) ∷ []) ∷ view) (sym (now-past tokens (reverse trail)) ∙ ap tokens_now is)

-- a state was taken back
pub unset_kept : (tokens : TokenList) (trail left : List Edit) (by_rank : List ℕ) (children : ℕ → List ℕ) (place : ℕ) (state : TokenState)
    → trail ≡ left ++ Was place state ∷ [] → AreKeptTokens tokens (reverse trail) by_rank children
    → AreKeptTokens (with_state tokens place state) (reverse left) by_rank children
unset_kept tokens trail left by_rank children place state is kept =
    let names = sym (names-with_state tokens place state) in
    record {
      led = (last_edit tokens trail left (Was place state) is kept.led).1;
      few = omega (arith, kept.few, length-with_state tokens place state);
      ranked = subst (λ n. IsRanking n by_rank) names kept.ranked;
      listed = subst (λ n. HaveChildren n children) names kept.listed;
    }
