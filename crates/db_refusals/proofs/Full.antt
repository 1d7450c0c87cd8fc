-- How many tokens are active.
use Rattle.std.proofs.Common.{◌≡◌, ℕ, zero, suc, ◌+◌, ◌<◌, ◌≤◌, true, false, List, [], ◌∷◌, ◌⊎◌, inl, inr, length, take, get_or, Some, refl, sym, ◌∙◌, ap, subst, arith}
use Rattle.std.specs.Prelude.{AllPairs, Contains, slice_get, sum_by, ◌≢◌, ◌↔◌, IsTrue}
use Rattle.std.proofs.Math.Dec.{leb}
use Rattle.std.proofs.lemmas.Bool.{leb-true, le-leb}
use Rattle.std.proofs.lemmas.List.Elements.{All-contains}
use Rattle.std.proofs.lemmas.List.Sums.{sum_by-cons, sum_by_more}
use Rattle.std.proofs.lemmas.Option.{get_or_from_slice_get}
use Rattle.eu_name.specs.declared.name.TokenName.{TokenName}
use Rattle.model_core.specs.declared.decision.Decision.{Decision}
use Rattle.model_core.specs.declared.model.Model.{Model}
use Rattle.model_core.specs.declared.view.TokenState.{TokenState}
use Rattle.model_core.specs.declared.view.TokenState.TheVariants.{Inactive, Active, Fact, Merged, Rejected}
use Rattle.model_core.specs.Decided.{IsActive}
use Rattle.plan_defs.specs.Refusals.{AreActive}
use Rattle.eu_name.proofs.Members.{get_from_contains, contains_from_get, get_below}
use Rattle.plan_defs.proofs.Members.{all_from_get}
use Rattle.eu_name.proofs.Ordered.{contains_head, contains_later, contains_cases, contains_none, ordered_head, ordered_tail, ordered_none, ordered_cons}
use Rattle.db_store.specs.Stores.{Snapshot}
use Rattle.plan_defs.specs.Unordered.{TakesPlace}
use Rattle.token_store.specs.Tokens.{TokenList, token_names, token_states}
use Rattle.token_store.specs.declared.trail.Token.{Token}
use Rattle.db_refusals.specs.Judging.{IsKeptAs, AreTold, one_if_active, active_count}
use Rattle.db_refusals.proofs.Told.{kept_active, active_kept}

abbrev Differ : TokenName → TokenName → Type 0
Differ one other = one ≢ other

-- ---- counting on

-- with the token at the place the sum goes on
pub count_more : (tokens : TokenList) (place active one : ℕ) (state : TokenState) → slice_get (token_states tokens) place ≡ Some state
    → active ≡ sum_by one_if_active (take place (token_states tokens)) → one ≡ one_if_active state
    → active + one ≡ sum_by one_if_active (take (place + 1) (token_states tokens))
count_more tokens place active one state at before is =
    let states = token_states tokens in
    let more = sum_by_more one_if_active states place state (get_below states place state at) in
    let here : one_if_active (get_or states place state) ≡ one_if_active state = ap one_if_active (get_or_from_slice_get states place state state at) in
    omega (arith, more, here, before, is)

-- all of them
pub count_all : (tokens : TokenList) (place active : ℕ) → active ≡ sum_by one_if_active (take place (token_states tokens)) → length (token_states tokens) ≤ place → active ≡ active_count tokens
count_all tokens place active before past = before ∙ ap (sum_by one_if_active) (take_all (token_states tokens) place past)
  where
    take_all : {X : Type 0} (xs : List X) (n : ℕ) → length xs ≤ n → take n xs ≡ xs
    take_all [] zero long = refl
    take_all [] (suc n) long = refl
    take_all (x ∷ xs) zero long = absurd (omega arith)
    take_all (x ∷ xs) (suc n) long = let rest = take_all xs n (omega arith) in ap (λ list. x ∷ list) rest

-- no more are active than there are
pub active_most : (tokens : TokenList) → active_count tokens ≤ length tokens
active_most [] = omega arith
active_most (token ∷ tokens) =
    let rest = active_most tokens in
    let sum = sum_by-cons one_if_active token.1.state (token_states tokens) in
    let one = at_most_one token.1.state in
    omega (arith, rest, sum, one)
  where
    at_most_one : (state : TokenState) → one_if_active state ≤ 1
    at_most_one Active = omega arith
    at_most_one Fact = omega arith
    at_most_one Inactive = omega arith
    at_most_one (Merged place) = omega arith
    at_most_one Rejected = omega arith

-- ---- one list has no more than another

-- the list without the item at the place
without : {X : Type 0} → List X → ℕ → List X
without [] k = []
without (x ∷ xs) zero = xs
without (x ∷ xs) (suc k) = x ∷ without xs k

length_without : {X : Type 0} (xs : List X) (k : ℕ) (x : X) → slice_get xs k ≡ Some x → length xs ≡ length (without xs k) + 1
unfolding without
length_without [] k x at = absurd (cc)
length_without (y ∷ xs) zero x at = omega arith
length_without (y ∷ xs) (suc k) x at = let rest = length_without xs k x at in omega (arith, rest)

contains_without : {X : Type 0} (xs : List X) (k : ℕ) (x v : X) → slice_get xs k ≡ Some x → (x ≡ v → ⊥) → Contains xs v → Contains (without xs k) v
unfolding without
contains_without [] k x v at apart c = absurd (contains_none v c)
contains_without (y ∷ xs) zero x v at apart c = elim (contains_cases y v xs c) [
  | inl same ↦ (let first : y ≡ x = cc in absurd (apart (sym first ∙ same)))
  | inr later ↦ later
]
contains_without (y ∷ xs) (suc k) x v at apart c = elim (contains_cases y v xs c) [
  | inl same ↦ subst (Contains (y ∷ without xs k)) same (contains_head y (without xs k))
  | inr later ↦ contains_later y v (without xs k) (contains_without xs k x v at apart later)
]

no_longer : {X : Type 0} (xs ys : List X) → AllPairs (λ one other. one ≢ other) xs → ((v : X) → Contains xs v → Contains ys v) → length xs ≤ length ys
no_longer [] ys once into = omega arith
no_longer {X} (x ∷ xs) ys once into =
    let at = get_from_contains ys x (into x (contains_head x xs)) in
    let rest = no_longer xs (without ys at.0) (ordered_tail (λ (one other : X). one ≢ other) x xs once)
    (λ v c. contains_without ys at.0 x v at.1 (ordered_head (λ (one other : X). one ≢ other) x xs once v c) (into v (contains_later x v xs c))) in
    let long = length_without ys at.0 x at.1 in
    omega (arith, rest, long)

-- ---- the tokens that take place

chosen_by : TokenState → TokenName → List TokenName → List TokenName
chosen_by Active token more = token ∷ more
chosen_by Fact token more = token ∷ more
chosen_by state token more = more

placed : TokenList → List TokenName
placed [] = []
placed (token ∷ tokens) = chosen_by token.1.state token.0 (placed tokens)

chosen_long : (state : TokenState) (token : TokenName) (more : List TokenName) → length (chosen_by state token more) ≡ one_if_active state + length more
unfolding chosen_by
chosen_long Inactive token more = omega arith
chosen_long Active token more = omega arith
chosen_long Fact token more = omega arith
chosen_long (Merged place) token more = omega arith
chosen_long Rejected token more = omega arith

placed_long : (tokens : TokenList) → active_count tokens ≡ length (placed tokens)
unfolding placed
placed_long [] = refl
placed_long (token ∷ tokens) =
    let rest = placed_long tokens in
    let first = chosen_long token.1.state token.0 (placed tokens) in
    let sum = sum_by-cons one_if_active token.1.state (token_states tokens) in
    omega (arith, rest, first, sum)

chosen_cases : (state : TokenState) (token : TokenName) (more : List TokenName) (v : TokenName) → Contains (chosen_by state token more) v → ((token ≡ v) × TakesPlace state) ⊎ Contains more v
unfolding chosen_by
chosen_cases Inactive token more v c = inr c
chosen_cases Active token more v c = elim (contains_cases token v more c) [ inl same ↦ inl (same, tt) | inr later ↦ inr later ]
chosen_cases Fact token more v c = elim (contains_cases token v more c) [ inl same ↦ inl (same, tt) | inr later ↦ inr later ]
chosen_cases (Merged place) token more v c = inr c
chosen_cases Rejected token more v c = inr c

chosen_has : (state : TokenState) (token : TokenName) (more : List TokenName) → TakesPlace state → Contains (chosen_by state token more) token
unfolding chosen_by
chosen_has Inactive token more takes = absurd takes
chosen_has Active token more takes = contains_head token more
chosen_has Fact token more takes = contains_head token more
chosen_has (Merged place) token more takes = absurd takes
chosen_has Rejected token more takes = absurd takes

chosen_keeps : (state : TokenState) (token : TokenName) (more : List TokenName) (v : TokenName) → Contains more v → Contains (chosen_by state token more) v
unfolding chosen_by
chosen_keeps Inactive token more v c = c
chosen_keeps Active token more v c = contains_later token v more c
chosen_keeps Fact token more v c = contains_later token v more c
chosen_keeps (Merged place) token more v c = c
chosen_keeps Rejected token more v c = c

chosen_once : (state : TokenState) (token : TokenName) (more : List TokenName) → ((v : TokenName) → Contains more v → token ≢ v) → AllPairs Differ more → AllPairs Differ (chosen_by state token more)
unfolding chosen_by
chosen_once Inactive token more apart once = once
chosen_once Active token more apart once = ordered_cons Differ token more apart once
chosen_once Fact token more apart once = ordered_cons Differ token more apart once
chosen_once (Merged place) token more apart once = once
chosen_once Rejected token more apart once = once

kept_later : (first : TokenName × Token) (tokens : TokenList) (token : TokenName) (state : TokenState) → IsKeptAs tokens token state → IsKeptAs (first ∷ tokens) token state
kept_later first tokens token state is = record { place = suc is.place; named = is.named; kept = is.kept }

placed_kept : (tokens : TokenList) (token : TokenName) → Contains (placed tokens) token → (state : TokenState) × (IsKeptAs tokens token state × TakesPlace state)
unfolding placed
placed_kept [] token c = absurd (contains_none token c)
placed_kept (first ∷ tokens) token c = elim (chosen_cases first.1.state first.0 (placed tokens) token c) [
  | inl here ↦ (first.1.state, (record { place = 0; named = ap (λ (t : TokenName). Some t) here.0; kept = refl }, here.1))
  | inr later ↦ (let rest = placed_kept tokens token later in (rest.0, (kept_later first tokens token rest.0 rest.1.0, rest.1.1)))
]

kept_placed : (tokens : TokenList) (place : ℕ) (token : TokenName) (state : TokenState) → slice_get (token_names tokens) place ≡ Some token → slice_get (token_states tokens) place ≡ Some state
    → TakesPlace state → Contains (placed tokens) token
unfolding placed
kept_placed [] place token state named held takes = absurd (cc)
kept_placed (first ∷ tokens) zero token state named held takes =
    let name : first.0 ≡ token = cc in
    let same : first.1.state ≡ state = cc in
    subst (Contains (chosen_by first.1.state first.0 (placed tokens))) name (chosen_has first.1.state first.0 (placed tokens) (subst TakesPlace (sym same) takes))
kept_placed (first ∷ tokens) (suc place) token state named held takes =
    chosen_keeps first.1.state first.0 (placed tokens) token (kept_placed tokens place token state named held takes)

placed_named : (tokens : TokenList) (token : TokenName) → Contains (placed tokens) token → Contains (token_names tokens) token
placed_named tokens token c = let is = placed_kept tokens token c in contains_from_get (token_names tokens) is.1.0.place token is.1.0.named

placed_once : (tokens : TokenList) → AllPairs Differ (token_names tokens) → AllPairs Differ (placed tokens)
unfolding placed
placed_once [] once = ordered_none Differ
placed_once (first ∷ tokens) once =
    chosen_once first.1.state first.0 (placed tokens)
    (λ v c. ordered_head Differ first.0 (token_names tokens) once v (placed_named tokens v c))
    (placed_once tokens (ordered_tail Differ first.0 (token_names tokens) once))

state_within : (tokens : TokenList) (place : ℕ) (token : TokenName) → slice_get (token_names tokens) place ≡ Some token → (state : TokenState) × (slice_get (token_states tokens) place ≡ Some state)
state_within [] place token named = absurd (cc)
state_within (first ∷ tokens) zero token named = (first.1.state, refl)
state_within (first ∷ tokens) (suc place) token named = state_within tokens place token named

-- a token that is there is kept with some state
pub kept_somehow : (tokens : TokenList) (token : TokenName) → Contains (token_names tokens) token → (state : TokenState) × IsKeptAs tokens token state
kept_somehow tokens token c =
    let at = get_from_contains (token_names tokens) token c in
    let held = state_within tokens at.0 token at.1 in
    (held.0, record { place = at.0; named = at.1; kept = held.1 })

module _ (model : Model) (decisions : List Decision) (snapshot : Snapshot) (told : AreTold model decisions snapshot) (once : AllPairs Differ (token_names snapshot.tokens)) where
  full_active : (number : ℕ) → number ≤ active_count snapshot.tokens → AreActive model decisions number
  full_active number enough = record {
    tokens = placed snapshot.tokens;
    distinct = placed_once snapshot.tokens once;
    active = all_from_get (IsActive model decisions) (placed snapshot.tokens) (λ k token at.
        let is = placed_kept snapshot.tokens token (contains_from_get (placed snapshot.tokens) k token at) in
        kept_active model decisions snapshot told token is.0 is.1.0 is.1.1);
    enough = omega (arith, enough, placed_long snapshot.tokens);
  }

  active_full : (number : ℕ) → AreActive model decisions number → number ≤ active_count snapshot.tokens
  active_full number are =
      let fits = no_longer are.tokens (placed snapshot.tokens) are.distinct (λ token c.
      let active = All-contains (IsActive model decisions) are.tokens token are.active c in
      let there = active_there token active in
      let kept = kept_somehow snapshot.tokens token there in
      kept_placed snapshot.tokens kept.1.place token kept.0 kept.1.named kept.1.kept (active_kept model decisions snapshot told token kept.0 kept.1 active)) in
      omega (arith, fits, are.enough, placed_long snapshot.tokens)
    where
      active_there : (token : TokenName) → IsActive model decisions token → Contains (token_names snapshot.tokens) token
      active_there token (inl fact) = told.facts token fact
      active_there token (inr activated) = told.taken token (inl activated)

  pub is_full_when : (number : ℕ) → (number ≤ active_count snapshot.tokens) ↔ AreActive model decisions number
  is_full_when number = (full_active number, active_full number)

  pub full_told : (tokens : TokenList) → snapshot.tokens ≡ tokens → (count : ℕ) → count ≡ active_count tokens → IsTrue (leb 512 count) ↔ AreActive model decisions 512
  full_told tokens same count is =
      let counted : count ≡ active_count snapshot.tokens = is ∙ ap active_count (sym same) in
      let when = is_full_when 512 in (
        λ enough. when.0 (omega (arith, leb-true 512 count enough, counted)),
        λ are. le-leb 512 count (omega (arith, when.1 are, counted)),
      )

  -- where there are fewer tokens, so many aren't active
  pub few_told : (tokens : TokenList) → snapshot.tokens ≡ tokens → length tokens < 512 → IsTrue false ↔ AreActive model decisions 512
  few_told tokens same few = (
    λ yes. let p : false ≡ true = yes in cc,
    λ are. let enough = active_full 512 are in let most = active_most snapshot.tokens in absurd (omega (arith, enough, most, few, ap length same)),
  )
