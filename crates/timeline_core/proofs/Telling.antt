-- What a view tells of tokens on timelines.
use Rattle.std.proofs.Common.{◌≡◌, ℕ, ◌<◌, ◌≤◌, List, length, get_or, Bool, true, false, Option, Some, None, refl, sym, subst, inl, inr, arith}
use Rattle.std.specs.Prelude.{ℤ, ◌<ℤ◌, ◌↔◌, IsTrue, MatchBool, MatchOption, IfSome, IfNone, ◌≢◌}
use Rattle.std.proofs.lemmas.Bool.{cases_lt}
use Rattle.std.proofs.lemmas.Option.{slice_get_within, get_or_from_slice_get}
use Rattle.domain_core.specs.Domain.{Domain, IsSingle, least, greatest}
use Rattle.eu_name.specs.declared.name.Part.TheVariants.{Start, End, Object}
use Rattle.eu_name.specs.declared.name.TokenName.{TokenName}
use Rattle.eu_name.specs.declared.name.VarName.TheVariants.{Token}
use Rattle.eu_name.specs.NameOrder.{IsTokenBefore}
use Rattle.eu_name.proofs.Orders.{token_order}
use Rattle.model_core.specs.declared.decision.Decision.{Decision}
use Rattle.model_core.specs.declared.model.Model.{Model}
use Rattle.model_core.specs.declared.view.TokenState.{TokenState}
use Rattle.model_core.specs.declared.view.TokenState.TheVariants.{Inactive, Active, Fact, Merged, Rejected}
use Rattle.model_core.specs.Decided.{IsActive, IsDecided}
use Rattle.model_core.specs.State.{State, Gives, AreInOrder}
use Rattle.model_core.specs.TokenStates.{HasTokenState}
use Rattle.model_core.specs.Views.{IsTokenAt, IsOrderedAt}
use Rattle.plan_defs.specs.Timelines.{IsOn}
use Rattle.plan_defs.proofs.States.{gives_same}
use Rattle.plan_defs.specs.Unordered.{AreDecidedOnce, TakesPlace, IsActiveOn, MayOverrun, HaveNoOrder, IsPairAt, IsFirstPair}

pub one_token : (state : State) (place : ℕ) (one other : TokenName) → IsTokenAt state place one → IsTokenAt state place other → one ≡ other
one_token state place one other p q = cc

pub no_token : (state : State) (place : ℕ) (token : TokenName) → length state.tokens ≤ place → IsTokenAt state place token → ⊥
no_token state place token past at = omega (arith, past, slice_get_within state.tokens place token at)

decided_of : (model : Model) (decisions : List Decision) (token : TokenName) → IsActive model decisions token → IsDecided model decisions token
decided_of model decisions token (inl fact) = inl fact
decided_of model decisions token (inr activated) = inr (inl (inl activated))

module _ (model : Model) (decisions : List Decision) (state : State) where
  pub is_active : (found : TokenState) (token : TokenName) → TakesPlace found → HasTokenState model state decisions token found → IsActive model decisions token
  is_active Active token takes has = inr has
  is_active Fact token takes has = inl has
  is_active Inactive token takes has = absurd takes
  is_active (Merged place) token takes has = absurd takes
  is_active Rejected token takes has = absurd takes

  pub not_active : AreDecidedOnce model decisions → (found : TokenState) (token : TokenName) → (TakesPlace found → ⊥) → HasTokenState model state decisions token found → IsActive model decisions token → ⊥
  not_active once Active token not has active = not tt
  not_active once Fact token not has active = not tt
  not_active once Inactive token not has active = has (decided_of model decisions token active)
  not_active once (Merged place) token not has active = (once token active).0 (has.0, has.2)
  not_active once Rejected token not has active = (once token active).1 has

  pub active_told : AreDecidedOnce model decisions → (place : ℕ) (found : TokenState) (told : Bool) → IsTrue told ↔ TakesPlace found
      → ((token : TokenName) × IsTokenAt state place token × HasTokenState model state decisions token found)
      → MatchBool told ((token : TokenName) × IsTokenAt state place token × IsActive model decisions token)
      ((token : TokenName) → IsTokenAt state place token → IsActive model decisions token → ⊥)
  active_told once place found true takes has = (has.0, has.1, is_active found has.0 (takes.0 refl) has.2)
  active_told once place found false takes has = λ token at active.
      not_active once found has.0 (λ t. let p : false ≡ true = takes.1 t in cc) has.2
      (subst (λ t. IsActive model decisions t) (one_token state place token has.0 at has.1) active)

module _ (state : State) (order : AreInOrder state) where
  same_domain : (place : ℕ) (t token : TokenName) (d domain : Domain) → IsTokenAt state place t → IsTokenAt state place token
      → Gives state (Token t Object) d → Gives state (Token token Object) domain → domain ≡ d
  same_domain place t token d domain at at' gives gives' =
      gives_same state order (Token t Object) domain d (subst (λ x. Gives state (Token x Object) domain) (one_token state place token t at' at) gives') gives

  pub object_told : (place : ℕ) (domain : Domain) (found : Option ℤ) → ((token : TokenName) × IsTokenAt state place token × Gives state (Token token Object) domain)
      → IfSome found (λ value. IsSingle domain value) → IfNone found ((value : ℤ) → IsSingle domain value → ⊥)
      → MatchOption found ((token : TokenName) (object : ℤ) → IsTokenAt state place token → IsOn state token object → ⊥)
      (λ object. (token : TokenName) × IsTokenAt state place token × IsOn state token object)
  object_told place domain (Some value) has some none = (has.0, has.1, (domain, has.2, some))
  object_told place domain None has some none = λ token object at on.
      none object (subst (λ d. IsSingle d object) (same_domain place has.0 token domain on.0 has.1 at has.2 on.1) on.2)

  pub one_object : (place : ℕ) (t token : TokenName) (object timeline : ℤ) → IsTokenAt state place t → IsTokenAt state place token → IsOn state t object → IsOn state token timeline → timeline ≡ object
  one_object place t token object timeline at at' on on' =
      let same = same_domain place t token on.0 on'.0 at at' on.1 on'.1 in
      on.2.only timeline (subst (λ d. IsSingle d timeline) same on'.2).has

  pub overrun_told : (one other : ℕ) (end start : Domain) (told : Bool) → ((token : TokenName) × IsTokenAt state one token × Gives state (Token token End) end)
      → ((token : TokenName) × IsTokenAt state other token × Gives state (Token token Start) start) → IsTrue told ↔ (least start <ℤ greatest end)
      → MatchBool told ((first second : TokenName) × (IsTokenAt state one first × IsTokenAt state other second × MayOverrun state first second))
      ((first second : TokenName) → IsTokenAt state one first → IsTokenAt state other second → MayOverrun state first second → ⊥)
  overrun_told one other end start true ends starts is =
      (ends.0, starts.0, (ends.1, starts.1, record { end = end; start = start; gives_end = ends.2; gives_start = starts.2; late = is.0 refl }))
  overrun_told one other end start false ends starts is = λ first second at at' over.
      let same_end : over.end ≡ end = gives_same state order (Token ends.0 End) over.end end
      (subst (λ x. Gives state (Token x End) over.end) (one_token state one first ends.0 at ends.1) over.gives_end) ends.2 in
      let same_start : over.start ≡ start = gives_same state order (Token starts.0 Start) over.start start
      (subst (λ x. Gives state (Token x Start) over.start) (one_token state other second starts.0 at' starts.1) over.gives_start) starts.2 in
      let late : least start <ℤ greatest end = subst (λ d. least d <ℤ greatest end) same_start (subst (λ d. least over.start <ℤ greatest d) same_end over.late) in
      let p : false ≡ true = is.1 late in
      cc

module _ (decisions : List Decision) (state : State) where
  pub no_order_told : (one other : ℕ) (told : Bool) → (IsOrderedAt state decisions one other → ⊥) → (IsOrderedAt state decisions other one → ⊥)
      → ((first second : TokenName) × (IsTokenAt state one first × IsTokenAt state other second × MayOverrun state first second))
      → MatchBool told ((first second : TokenName) × (IsTokenAt state other first × IsTokenAt state one second × MayOverrun state first second))
      ((first second : TokenName) → IsTokenAt state other first → IsTokenAt state one second → MayOverrun state first second → ⊥)
      → MatchBool told ((first second : TokenName) × (IsTokenAt state one first × IsTokenAt state other second × HaveNoOrder decisions state first second))
      ((first second : TokenName) → IsTokenAt state one first → IsTokenAt state other second → HaveNoOrder decisions state first second → ⊥)
  no_order_told one other true not not' over over' =
      let first = over.0 in
      let second = over.1 in
      let back : MayOverrun state second first =
      subst (λ x. MayOverrun state second x) (one_token state one over'.1 first over'.2.1 over.2.0)
      (subst (λ x. MayOverrun state x over'.1) (one_token state other over'.0 second over'.2.0 over.2.1) over'.2.2) in (
        first,
        second,
        (
          over.2.0,
          over.2.1,
          record {
            not_before = λ there. not (first, second, (over.2.0, over.2.1, there));
            not_after = λ there. not' (second, first, (over.2.1, over.2.0, there));
            overruns = over.2.2;
            overrun = back;
          },
        ),
      )
  no_order_told one other false not not' over over' = λ first second at at' no. over' second first at' at no.overrun

module _ (model : Model) (decisions : List Decision) (state : State) (order : AreInOrder state) where
  apart : (one other : ℕ) (first second : TokenName) → one < other → IsTokenAt state one first → IsTokenAt state other second → first ≢ second
  apart one other first second before at at' same =
      let within = slice_get_within state.tokens other second at' in
      let pair : IsTokenBefore first second =
      subst (λ t. IsTokenBefore first t) (get_or_from_slice_get state.tokens other second first at')
      (subst (λ t. IsTokenBefore t (get_or state.tokens other first)) (get_or_from_slice_get state.tokens one first first at) (order.tokens one other first before within)) in
      token_order.irreflexive second (subst (λ t. IsTokenBefore t second) same pair)

  pub pair_told : (one other : ℕ) (timeline : ℤ) (told : Bool) → one < other → ((token : TokenName) × IsTokenAt state one token × IsActiveOn model decisions state token timeline)
      → ((token : TokenName) × IsTokenAt state other token × IsActiveOn model decisions state token timeline)
      → MatchBool told ((first second : TokenName) × (IsTokenAt state one first × IsTokenAt state other second × HaveNoOrder decisions state first second))
      ((first second : TokenName) → IsTokenAt state one first → IsTokenAt state other second → HaveNoOrder decisions state first second → ⊥)
      → MatchBool told (IsPairAt model decisions state one other) (IsPairAt model decisions state one other → ⊥)
  pair_told one other timeline true before first second is =
      let ones : IsActiveOn model decisions state is.0 timeline = subst (λ t. IsActiveOn model decisions state t timeline) (one_token state one first.0 is.0 first.1 is.2.0) first.2 in
      let others : IsActiveOn model decisions state is.1 timeline = subst (λ t. IsActiveOn model decisions state t timeline) (one_token state other second.0 is.1 second.1 is.2.1) second.2 in
      record {
        before = before;
        first = is.0;
        second = is.1;
        first_at = is.2.0;
        second_at = is.2.1;
        unordered = record {
          share = record {
            apart = apart one other is.0 is.1 before is.2.0 is.2.1;
            one_active = ones.active;
            other_active = others.active;
            timeline = timeline;
            is_timeline = ones.is_timeline;
            one_on = ones.on;
            other_on = others.on;
          };
          no_order = is.2.2;
        };
      }
  pair_told one other timeline false before first second is = λ pair. is pair.first pair.second pair.first_at pair.second_at pair.unordered.no_order

  -- the tokens of a pair are active on its timeline
  pub pair_first : (one other : ℕ) (pair : IsPairAt model decisions state one other) → IsActiveOn model decisions state pair.first pair.unordered.share.timeline
  pair_first one other pair =
      record { active = pair.unordered.share.one_active; is_timeline = pair.unordered.share.is_timeline; on = pair.unordered.share.one_on }

  pub pair_second : (one other : ℕ) (pair : IsPairAt model decisions state one other) → IsActiveOn model decisions state pair.second pair.unordered.share.timeline
  pair_second one other pair =
      record { active = pair.unordered.share.other_active; is_timeline = pair.unordered.share.is_timeline; on = pair.unordered.share.other_on }

  -- no place is passed over
  pub no_earlier : (one other n : ℕ) → ((k : ℕ) → k < other → IsPairAt model decisions state one k → ⊥) → IsPairAt model decisions state one n → other ≤ n
  no_earlier one other n none pair = elim (cases_lt n other) [ inl less ↦ absurd (none n less pair) | inr rest ↦ rest ]

  pub pair_within : (one n : ℕ) → IsPairAt model decisions state one n → (one < length state.tokens) × (n < length state.tokens)
  pair_within one n pair = (slice_get_within state.tokens one pair.first pair.first_at, slice_get_within state.tokens n pair.second pair.second_at)

  pub first_pair : (one other : ℕ) → ((m n : ℕ) → m < one → IsPairAt model decisions state m n → ⊥)
      → (IsPairAt model decisions state one other × ((n : ℕ) → IsPairAt model decisions state one n → other ≤ n)) → IsFirstPair model decisions state one other
  first_pair one other none is = record {
    is_pair = is.0;
    first = λ m n pair. elim (cases_lt m one) [
      | inl less ↦ absurd (none m n less pair)
      | inr rest ↦ elim (cases_lt one m) [
        | inl more ↦ inl more
        | inr over ↦
            let same : one ≡ m = omega arith in
            inr (same, is.1 n (subst (λ k. IsPairAt model decisions state k n) (sym same) pair))
      ]
    ];
  }
