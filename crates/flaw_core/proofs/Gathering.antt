-- Lists of the tokens of which something is so.
use Rattle.std.proofs.Common.{◌≡◌, ◌≢◌, ℕ, zero, suc, ◌+◌, ◌-◌, ◌<◌, ◌≤◌, length, inl, inr, List, [], ◌∷◌, ◌++◌, Some, get_or, Bool, true, false, refl, sym, ap, ◌∙◌, subst, append_assoc, arith}
use Rattle.std.specs.Prelude.{AllPairs, Contains, slice_get, ◌↔◌, MatchBool}
use Rattle.std.proofs.Math.Dec.{leb}
use Rattle.std.proofs.lemmas.Bool.{cases_lt, leb-true, le-leb}
use Rattle.std.proofs.lemmas.List.{append-nil, length-append}
use Rattle.std.proofs.lemmas.List.Elements.{All-contains, Contains-append_left, Contains-append_right, Contains-append_cases}
use Rattle.eu_name.specs.declared.name.Step.{Step}
use Rattle.eu_name.specs.declared.name.TokenName.{TokenName}
use Rattle.eu_name.specs.NameOrder.{IsTokenBefore}
use Rattle.eu_name.proofs.Members.{get_within, get_below, get_from_contains, contains_from_get}
use Rattle.eu_name.proofs.Orders.{token_order}
use Rattle.model_core.specs.declared.decision.Decision.{Decision}
use Rattle.model_core.specs.declared.decision.Decision.TheVariants.{Activate}
use Rattle.model_core.specs.declared.model.Model.{Model}
use Rattle.model_core.specs.Decided.{IsActive}
use Rattle.model_core.specs.State.{State, AreInOrder}
use Rattle.model_core.specs.Views.{IsTokenAt}
use Rattle.plan_defs.specs.Refusals.{AreActive}
use Rattle.plan_defs.proofs.Knowing.{IsOrNot}
use Rattle.plan_defs.proofs.Members.{all_from_get}
use Rattle.eu_name.proofs.Ordered.{contains_head, contains_later, contains_cases, contains_none, ordered_head, ordered_tail, ordered_none, ordered_cons, same_members}
use Rattle.plan_states.proofs.Following.{places_before}
use Rattle.plan_defs.proofs.Telling.{one_at}
use Rattle.law_states.proofs.Founding.{well_founded}
use Rattle.law_search.proofs.CountingTokens.{cut_at}
use Rattle.flaw_core.specs.Gathering.{AreAllThat}
use Rattle.flaw_core.specs.Rules.{IsLeastFor}

ordered_push : {X : Type 0} (before : X → X → Type 0) (xs : List X) (y : X) → AllPairs before xs → ((x : X) → Contains xs x → before x y) → AllPairs before (xs ++ y ∷ [])
ordered_push before [] y pairs less = ordered_cons before y [] (λ x there. absurd (contains_none x there)) (ordered_none before)
ordered_push before (x ∷ xs) y pairs less =
    ordered_cons before x (xs ++ y ∷ [])
    (λ z there. elim (Contains-append_cases xs (y ∷ []) z there) [
      | inl here ↦ ordered_head before x xs pairs z here
      | inr last ↦ elim (contains_cases y z [] last) [
        | inl same ↦ subst (before x) same (less x (contains_head x xs))
        | inr none ↦ absurd (contains_none z none)
      ]
    ])
    (ordered_push before xs y (ordered_tail before x xs pairs) (λ z there. less z (contains_later x z xs there)))

-- ---- tokens up to a place

module _ (P : TokenName → Type 0) (state : State) (in_order : AreInOrder state) where
  -- they are those at the places below this one
  pub record AreSoFar (place : ℕ) (found : List TokenName) : Type 0 where
    pub order : AllPairs IsTokenBefore found
    pub only : (token : TokenName) → Contains found token → P token × ((n : ℕ) × (n < place) × IsTokenAt state n token)
    pub each : (n : ℕ) (token : TokenName) → n < place → IsTokenAt state n token → P token → Contains found token

  pub so_far_none : AreSoFar 0 []
  so_far_none = record {
    order = ordered_none IsTokenBefore;
    only = λ token there. absurd (contains_none token there);
    each = λ n token below. absurd (omega (arith, below));
  }

  pub so_far_more : (place : ℕ) (found : List TokenName) (token : TokenName) → AreSoFar place found → IsTokenAt state place token → P token → AreSoFar (place + 1) (found ++ token ∷ [])
  so_far_more place found token so here is = record {
    order = ordered_push IsTokenBefore found token so.order (λ other there.
        let old = so.only other there in places_before state in_order old.1.0 place other token old.1.1 old.1.2 here);
    only = λ other there. elim (Contains-append_cases found (token ∷ []) other there) [
      | inl old ↦ let was = so.only other old in (was.0, (was.1.0, omega (arith, was.1.1), was.1.2))
      | inr new ↦ elim (contains_cases token other [] new) [
        | inl same ↦ (subst P same is, (place, omega arith, subst (IsTokenAt state place) same here))
        | inr none ↦ absurd (contains_none other none)
      ]
    ];
    each = λ n other below at has. elim (cases_lt n place) [
      | inl less ↦ Contains-append_left found (token ∷ []) other (so.each n other less at has)
      | inr not ↦
          let same : n ≡ place = omega (arith, below) in
          let tokens : token ≡ other = one_at state place token other here (subst (λ k. IsTokenAt state k other) same at) in
          Contains-append_right found (token ∷ []) other (subst (Contains (token ∷ [])) tokens (contains_head token []))
    ];
  }

  pub so_far_same : (place : ℕ) (found : List TokenName) → AreSoFar place found → ((token : TokenName) → IsTokenAt state place token → P token → ⊥) → AreSoFar (place + 1) found
  so_far_same place found so not = record {
    order = so.order;
    only = λ other there. let was = so.only other there in (was.0, (was.1.0, omega (arith, was.1.1), was.1.2));
    each = λ n other below at has. elim (cases_lt n place) [
      | inl less ↦ so.each n other less at has
      | inr over ↦
          let same : n ≡ place = omega (arith, below) in
          absurd (not other (subst (λ k. IsTokenAt state k other) same at) has)
    ];
  }

  pub so_far_all : (place : ℕ) (found : List TokenName) → length state.tokens ≤ place → AreSoFar place found → AreAllThat P state found
  so_far_all place found past so = record {
    order = so.order;
    are = λ token. (
      λ there. let was = so.only token there in (contains_from_get state.tokens was.1.0 token was.1.2, was.0),
      λ has.
          let at = get_from_contains state.tokens token has.0 in
          so.each at.0 token (omega (arith, get_below state.tokens at.0 token at.1, past)) at.1 has.1,
    );
  }

  pub all_once : (one other : List TokenName) → AreAllThat P state one → AreAllThat P state other → one ≡ other
  all_once one other p q =
      same_members IsTokenBefore token_order.irreflexive token_order.transitive one other p.order q.order
      (λ token there. (q.are token).1 ((p.are token).0 there)) (λ token there. (p.are token).1 ((q.are token).0 there))

  -- where each can be told, the others follow those so far
  module _ (tell : (token : TokenName) → Contains state.tokens token → IsOrNot (P token)) where
    pub rest_from : (more place : ℕ) (found : List TokenName) → more + place ≡ length state.tokens → AreSoFar place found → (rest : List TokenName) × AreAllThat P state (found ++ rest)
    rest_from zero place found count so = ([], subst (AreAllThat P state) (sym (append-nil found)) (so_far_all place found (omega (arith, count)) so))
    rest_from (suc more) place found count so =
        let at = get_within state.tokens place (omega (arith, count)) in
        elim (tell at.0 (contains_from_get state.tokens place at.0 at.1)) [
          | inl is ↦
              let next = rest_from more (place + 1) (found ++ at.0 ∷ []) (omega (arith, count)) (so_far_more place found at.0 so at.1 is) in
              (at.0 ∷ next.0, subst (AreAllThat P state) (append_assoc found (at.0 ∷ []) next.0) next.1)
          | inr not ↦
              rest_from more (place + 1) found (omega (arith, count)) (so_far_same place found so (λ token here has. not (subst P (one_at state place token at.0 here at.1) has)))
        ]

    pub all_that : (found : List TokenName) × AreAllThat P state found
    all_that = let rest = rest_from (length state.tokens) 0 [] (omega arith) so_far_none in (rest.0, rest.1)

    -- the token at the place stands behind those before it
    pub stands_behind : (place : ℕ) (found targets : List TokenName) (token : TokenName) → AreSoFar place found → IsTokenAt state place token → P token → AreAllThat P state targets
        → (rest : List TokenName) × (targets ≡ found ++ token ∷ rest)
    stands_behind place found targets token so here is all =
        let below = get_below state.tokens place token here in
        let next = rest_from (length state.tokens - (place + 1)) (place + 1) (found ++ token ∷ []) (omega (arith, below)) (so_far_more place found token so here is) in
        (next.0, all_once targets ((found ++ token ∷ []) ++ next.0) all next.1 ∙ append_assoc found (token ∷ []) next.0)

pub get_behind : {X : Type 0} (xs ys : List X) (x : X) → slice_get (xs ++ x ∷ ys) (length xs) ≡ Some x
get_behind [] ys x = refl
get_behind (y ∷ xs) ys x =
    let one : length (y ∷ xs) ≡ suc (length xs) = omega arith in
    subst (λ n. slice_get (y ∷ (xs ++ x ∷ ys)) n ≡ Some x) (sym one) (get_behind xs ys x)

-- ---- one list has no more than another

no_longer : {X : Type 0} (xs ys : List X) → AllPairs (λ one other. one ≢ other) xs → ((v : X) → Contains xs v → Contains ys v) → length xs ≤ length ys
no_longer [] ys once into = omega arith
no_longer {X} (x ∷ xs) ys once into =
    let cut = cut_at ys x (into x (contains_head x xs)) in
    let rest = no_longer xs (cut.before ++ cut.after) (ordered_tail (λ (one other : X). one ≢ other) x xs once) (λ v there.
    elim (Contains-append_cases cut.before (x ∷ cut.after) v (subst (λ (l : List X). Contains l v) cut.are (into v (contains_later x v xs there)))) [
      | inl early ↦ Contains-append_left cut.before cut.after v early
      | inr late ↦ elim (contains_cases x v cut.after late) [
        | inl same ↦ absurd (ordered_head (λ (one other : X). one ≢ other) x xs once v there same)
        | inr later ↦ Contains-append_right cut.before cut.after v later
      ]
    ]) in
    let whole : length ys ≡ length (cut.before ++ x ∷ cut.after) = ap length cut.are in
    omega (arith, rest, whole, length-append cut.before (x ∷ cut.after), length-append cut.before cut.after)

-- ---- active tokens

module _ (model : Model) (decisions : List Decision) (state : State) (least : IsLeastFor model decisions state) where
  -- what is active is there
  pub active_there : (token : TokenName) → IsActive model decisions token → Contains state.tokens token
  active_there token (inl fact) = least.least.closed.consistent.tokens token (record {
    root = fact.1.0;
    is_root = fact.1.1;
    asked = λ front step back are. absurd (no_step front step back (sym are ∙ fact.0));
  })
    where
      no_step : (front : List Step) (step : Step) (back : List Step) → front ++ step ∷ back ≡ [] → ⊥
      no_step [] step back same = cc
      no_step (first ∷ front) step back same = cc
  active_there token (inr activated) = (well_founded model decisions state least.lawful least.settled least.least).known (Activate token) activated

  pub active_when : (number : ℕ) (active : List TokenName) → AreAllThat (IsActive model decisions) state active → (number ≤ length active) ↔ AreActive model decisions number
  active_when number active all = (
    λ enough. record {
      tokens = active;
      distinct = λ i j d less within. λ same.
          token_order.irreflexive (get_or active j d) (subst (λ (t : TokenName). IsTokenBefore t (get_or active j d)) same (all.order i j d less within));
      active = all_from_get (IsActive model decisions) active (λ k token at. ((all.are token).0 (contains_from_get active k token at)).1);
      enough = enough;
    },
    λ are.
        let few = no_longer are.tokens active are.distinct (λ token there.
        let is = All-contains (IsActive model decisions) are.tokens token are.active there in
        (all.are token).1 (active_there token is, is)) in
        omega (arith, few, are.enough),
  )

  -- what the count says
  pub active_told : (number count : ℕ) → ((active : List TokenName) × (length active ≡ count) × AreAllThat (IsActive model decisions) state active)
      → MatchBool (leb number count) (AreActive model decisions number) (AreActive model decisions number → ⊥)
  active_told number count (active, long, all) = by_test (leb number count) refl
    where
      by_test : (told : Bool) → leb number count ≡ told → MatchBool told (AreActive model decisions number) (AreActive model decisions number → ⊥)
      by_test true is = (active_when number active all).0 (omega (arith, leb-true number count is, long))
      by_test false is = λ are. let p : leb number count ≡ true = le-leb number count (omega (arith, (active_when number active all).1 are, long)) in cc

-- ---- counting, and passing by

module _ (P : TokenName → Type 0) (state : State) where
  -- so many are below the place
  pub record IsCounted (place count : ℕ) : Type 0 where
    pub few : count ≤ place
    pub found : List TokenName
    pub long : length found ≡ count
    pub so_far : (order : AreInOrder state) → AreSoFar P state order place found

  pub count_none : IsCounted 0 0
  count_none = record { few = omega arith; found = []; long = refl; so_far = λ order. so_far_none P state order }

  -- so many were passed by of the number, and these are left
  pub record IsPassed (number place left : ℕ) : Type 0 where
    pub found : List TokenName
    pub long : length found + left ≡ number
    pub so_far : (order : AreInOrder state) → AreSoFar P state order place found

  pub pass_none : (number : ℕ) → IsPassed number 0 number
  pass_none number = record { found = []; long = omega arith; so_far = λ order. so_far_none P state order }

  module _ (order : AreInOrder state) where
    pub count_more : (place count : ℕ) → IsCounted place count → ((token : TokenName) × IsTokenAt state place token × P token) → IsCounted (place + 1) (count + 1)
    count_more place count counted (token, here, is) = record {
      few = let few = counted.few in omega (arith, few);
      found = counted.found ++ token ∷ [];
      long = let long = counted.long in omega (arith, long, length-append counted.found (token ∷ []));
      so_far = λ o. so_far_more P state o place counted.found token (counted.so_far o) here is;
    }

    pub count_same : (place count : ℕ) → IsCounted place count → ((token : TokenName) → IsTokenAt state place token → P token → ⊥) → IsCounted (place + 1) count
    count_same place count counted not = record {
      few = let few = counted.few in omega (arith, few);
      found = counted.found;
      long = counted.long;
      so_far = λ o. so_far_same P state o place counted.found (counted.so_far o) not;
    }

    pub count_all : (place count : ℕ) → length state.tokens ≤ place → IsCounted place count → (found : List TokenName) × (length found ≡ count) × AreAllThat P state found
    count_all place count past counted = (counted.found, counted.long, so_far_all P state order place counted.found past (counted.so_far order))

    pub pass_more : (number place left next : ℕ) → left ≡ next + 1 → IsPassed number place left → ((token : TokenName) × IsTokenAt state place token × P token) → IsPassed number (place + 1) next
    pass_more number place left next one passed (token, here, is) = record {
      found = passed.found ++ token ∷ [];
      long = let long = passed.long in omega (arith, long, one, length-append passed.found (token ∷ []));
      so_far = λ o. so_far_more P state o place passed.found token (passed.so_far o) here is;
    }

    pub pass_same : (number place left : ℕ) → IsPassed number place left → ((token : TokenName) → IsTokenAt state place token → P token → ⊥) → IsPassed number (place + 1) left
    pass_same number place left passed not = record {
      found = passed.found;
      long = passed.long;
      so_far = λ o. so_far_same P state o place passed.found (passed.so_far o) not;
    }

    pub pass_here : ((token : TokenName) → Contains state.tokens token → IsOrNot (P token)) → (number place left : ℕ) → left ≡ 0 → IsPassed number place left
        → ((token : TokenName) × IsTokenAt state place token × P token) → (targets : List TokenName) → AreAllThat P state targets
        → (token : TokenName) × IsTokenAt state place token × (slice_get targets number ≡ Some token)
    pass_here tell number place left none passed (token, here, is) targets all =
        let stands = stands_behind P state order tell place passed.found targets token (passed.so_far order) here is all in
        let count : length passed.found ≡ number = let long = passed.long in omega (arith, long, none) in (
          token,
          here,
          subst (λ (l : List TokenName). slice_get l number ≡ Some token) (sym stands.1)
              (subst (λ n. slice_get (passed.found ++ token ∷ stands.0) n ≡ Some token) count (get_behind passed.found stands.0 token)),
        )

    pub pass_all : (number place left : ℕ) → length state.tokens ≤ place → IsPassed number place left → (targets : List TokenName) → AreAllThat P state targets → number ≡ length targets + left
    pass_all number place left past passed targets all =
        let same = all_once P state order passed.found targets (so_far_all P state order place passed.found past (passed.so_far order)) all in
        let long = passed.long in omega (arith, long, ap length same)
