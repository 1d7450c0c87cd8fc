-- Which flaws there are of each sort, and in which order.
use Rattle.std.proofs.Common.{◌≡◌, ℕ, ◌<◌, ◌≤◌, length, ◌⊎◌, inl, inr, ⊎_elim, List, Some, refl, sym, ap, ◌∙◌, subst, arith}
use Rattle.std.specs.Prelude.{Contains, slice_get}
use Rattle.std.proofs.lemmas.Bool.{cases_lt}
use Rattle.std.proofs.lemmas.List.Elements.{All-contains}
use Rattle.domain_core.specs.Domain.{Domain}
use Rattle.eu_name.specs.declared.name.Part.{Part}
use Rattle.eu_name.specs.declared.name.Part.TheVariants.{Start, End, Duration, Object, Param}
use Rattle.eu_name.specs.declared.name.TokenName.{TokenName}
use Rattle.eu_name.specs.declared.name.VarName.{VarName}
use Rattle.eu_name.specs.declared.name.VarName.TheVariants as names
use Rattle.eu_name.specs.NameOrder.{IsTokenBefore, ByNumber}
use Rattle.eu_name.proofs.Members.{get_from_contains, get_below, get_same, contains_from_get, get_all}
use Rattle.eu_name.proofs.Orders.{token_order}
use Rattle.model_core.specs.declared.class.Pred.{Pred}
use Rattle.model_core.specs.declared.decision.Decision.{Decision}
use Rattle.model_core.specs.declared.model.Model.{Model}
use Rattle.model_core.specs.declared.rule.Rule.{Rule}
use Rattle.model_core.specs.declared.rule.Slot.{Slot}
use Rattle.model_core.specs.declared.variable.VarDecl.{VarDecl}
use Rattle.model_core.specs.Decided.{IsRejected, IsDecided}
use Rattle.model_core.specs.State.{State, Gives, IsState, IsBlockOf, AreInOrder}
use Rattle.model_core.specs.Tokens.{HasToken, HasRule}
use Rattle.model_core.specs.Variables.{HasParameter}
use Rattle.model_core.specs.Views.{IsTokenAt}
use Rattle.model_core.proofs.Leading.{token_once}
use Rattle.plan_defs.specs.Terms.{BelongsTo}
use Rattle.plan_defs.specs.Flaws.{Flaw, Undecided, Undetermined, Unordered, Untimed, IsFlaw, IsUntimed, IsTimed, IsUnbound}
use Rattle.plan_defs.specs.StatePlans.{IsSettledState}
use Rattle.plan_states.proofs.Counting.{number_below, rule_number_below}
use Rattle.plan_states.proofs.Following.{places_before}
use Rattle.plan_defs.proofs.Telling.{one_at}
use Rattle.law_search.specs.Choices.{IsFlawBefore}
use Rattle.plan_defs.specs.Unordered.{IsPairAt, IsFirstPair}
use Rattle.flaw_core.specs.declared.flaw.Flaw.TheVariants as flaws
use Rattle.flaw_core.specs.declared.flaw.VarPlace.{VarPlace}
use Rattle.flaw_core.specs.declared.flaw.VarPlace.TheVariants as at
use Rattle.flaw_core.specs.Places.{IsVarAt, IsOfUnrejected, IsUntimedAt, IsTimedAt}
use Rattle.flaw_core.specs.Seeking.{HasSeveral, IsValueAt, IsGlobalFlaw, IsParameterFlaw, IsRuleFlawAt, IsLocalFlawAt, IsValueFlawOf, IsTokenValueFlaw, IsTimeAt, IsTimeFlawOf, IsTokenFlaw, IsValueFlaw, IsPairFlaw, IsTimeFlaw, IsLateFlaw, IsLaterFlaw}
use Rattle.flaw_core.proofs.Finding.{FirstAt, NoneOf, found_one}
use Rattle.flaw_core.proofs.Ordering.{values_before, times_before, undecided_before, by_names, owners_before, global_before}

-- ---- names at places

module _ (state : State) where
  -- a place has one variable
  pub var_once : (place : VarPlace) (one other : VarName) → IsVarAt state place one → IsVarAt state place other → one ≡ other
  var_once (at.Global number) one other p q = p ∙ sym q
  var_once (at.Part place part) one other (t, here, p) (u, there, q) =
      p ∙ (ap (λ (x : TokenName). names.Token x part) (one_at state place t u here there) ∙ sym q)
  var_once (at.Local place rule number) one other (t, here, p) (u, there, q) =
      p ∙ (ap (λ (x : TokenName). names.Local x rule number) (one_at state place t u here there) ∙ sym q)

  pub part_of_place : (place : ℕ) (part : Part) (name : VarName) → IsVarAt state (at.Part place part) name → (token : TokenName) × IsTokenAt state place token × BelongsTo name token
  part_of_place place part name (token, here, is) = (token, here, subst (λ (n : VarName). BelongsTo n token) (sym is) refl)

  pub local_of_place : (place rule number : ℕ) (name : VarName) → IsVarAt state (at.Local place rule number) name → (token : TokenName) × IsTokenAt state place token × BelongsTo name token
  local_of_place place rule number name (token, here, is) = (token, here, subst (λ (n : VarName). BelongsTo n token) (sym is) refl)

  pub value_of_place : (place : ℕ) (flaw : Flaw) → IsValueFlawOf state place flaw
      → (name : VarName) × ((token : TokenName) × IsTokenAt state place token × BelongsTo name token) × (flaw ≡ Undetermined name)
  value_of_place place flaw (inl (name, var, is)) = (name, part_of_place place Object name var, is)
  value_of_place place flaw (inr (inl (number, (name, var, is)))) = (name, part_of_place place (Param number) name var, is)
  value_of_place place flaw (inr (inr (rule, (number, (name, var, is))))) = (name, local_of_place place rule number name var, is)

  pub time_of_place : (place : ℕ) (flaw : Flaw) → IsTimeFlawOf state place flaw
      → (name : VarName) × ((token : TokenName) × IsTokenAt state place token × BelongsTo name token) × (flaw ≡ Untimed name)
  time_of_place place flaw (inl (name, var, is)) = (name, part_of_place place Start name var, is)
  time_of_place place flaw (inr (name, var, is)) = (name, part_of_place place Duration name var, is)

  -- ---- their order

  pub globals_before : (m n : ℕ) (x y : Flaw) → m < n → IsValueAt state (at.Global m) x → IsValueAt state (at.Global n) y → IsFlawBefore x y
  globals_before m n x y less (a, p, one) (b, q, other) = values_before x y a b one other (by_names a b (names.Global m) (names.Global n) p q less)

  pub parameters_before : (place m n : ℕ) (x y : Flaw) → m < n → IsValueAt state (at.Part place (Param m)) x → IsValueAt state (at.Part place (Param n)) y → IsFlawBefore x y
  parameters_before place m n x y less (a, (t, here, p), one) (b, (u, there, q), other) =
      values_before x y a b one other (by_names a b (names.Token t (Param m)) (names.Token u (Param n)) p q (inr (one_at state place t u here there, omega (arith, less))))

  pub locals_before : (place rule m n : ℕ) (x y : Flaw) → m < n → IsValueAt state (at.Local place rule m) x → IsValueAt state (at.Local place rule n) y → IsFlawBefore x y
  locals_before place rule m n x y less (a, (t, here, p), one) (b, (u, there, q), other) =
      values_before x y a b one other (by_names a b (names.Local t rule m) (names.Local u rule n) p q (inr (one_at state place t u here there, inr (refl, less))))

  pub rules_before : (place r s : ℕ) (x y : Flaw) → r < s → IsRuleFlawAt state place r x → IsRuleFlawAt state place s y → IsFlawBefore x y
  rules_before place r s x y less (m, (a, (t, here, p), one)) (n, (b, (u, there, q), other)) =
      values_before x y a b one other (by_names a b (names.Local t r m) (names.Local u s n) p q (inr (one_at state place t u here there, inl less)))

  pub parameter_before : (place : ℕ) (x y : Flaw) → IsParameterFlaw state place x → IsLocalFlawAt state place y → IsFlawBefore x y
  parameter_before place x y (m, (a, (t, here, p), one)) (s, (n, (b, (u, there, q), other))) =
      values_before x y a b one other (by_names a b (names.Token t (Param m)) (names.Local u s n) p q (inr (one_at state place t u here there, tt)))

  pub object_before : (place : ℕ) (x y : Flaw) → IsValueAt state (at.Part place Object) x → IsParameterFlaw state place y ⊎ IsLocalFlawAt state place y → IsFlawBefore x y
  object_before place x y (a, (t, here, p), one) (inl (n, (b, (u, there, q), other))) =
      values_before x y a b one other (by_names a b (names.Token t Object) (names.Token u (Param n)) p q (inr (one_at state place t u here there, omega arith)))
  object_before place x y (a, (t, here, p), one) (inr (s, (n, (b, (u, there, q), other)))) =
      values_before x y a b one other (by_names a b (names.Token t Object) (names.Local u s n) p q (inr (one_at state place t u here there, tt)))

  pub global_first : (x y : Flaw) → IsGlobalFlaw state x → IsTokenValueFlaw state y → IsFlawBefore x y
  global_first x y (m, (a, p, one)) (place, sought) =
      let of = value_of_place place y sought in
      values_before x y a of.0 one of.2 (by_names a of.0 (names.Global m) of.0 p refl (global_before m of.0 of.1.0 of.1.2))

  pub start_before : (place : ℕ) (x y : Flaw) → IsTimeAt state (at.Part place Start) x → IsTimeAt state (at.Part place Duration) y → IsFlawBefore x y
  start_before place x y (a, (t, here, p), one) (b, (u, there, q), other) =
      times_before x y a b one other (by_names a b (names.Token t Start) (names.Token u Duration) p q (inr (one_at state place t u here there, omega arith)))

  -- the token at the place, of which nothing is decided
  abbrev pub IsUndecidedAt : ℕ → Flaw → Type 0
  IsUndecidedAt place flaw = (token : TokenName) × IsTokenAt state place token × (flaw ≡ Undecided token)

  module _ (order : AreInOrder state) where
    pub tokens_before : (m n : ℕ) (x y : Flaw) → m < n → IsValueFlawOf state m x → IsValueFlawOf state n y → IsFlawBefore x y
    tokens_before m n x y less p q =
        let one = value_of_place m x p in
        let other = value_of_place n y q in
        values_before x y one.0 other.0 one.2 other.2
        (owners_before one.0 other.0 one.1.0 other.1.0 one.1.2 other.1.2 (places_before state order m n one.1.0 other.1.0 less one.1.1 other.1.1))

    pub token_times_before : (m n : ℕ) (x y : Flaw) → m < n → IsTimeFlawOf state m x → IsTimeFlawOf state n y → IsFlawBefore x y
    token_times_before m n x y less p q =
        let one = time_of_place m x p in
        let other = time_of_place n y q in
        times_before x y one.0 other.0 one.2 other.2
        (owners_before one.0 other.0 one.1.0 other.1.0 one.1.2 other.1.2 (places_before state order m n one.1.0 other.1.0 less one.1.1 other.1.1))

    pub undecided_in_order : (m n : ℕ) (x y : Flaw) → m < n → IsUndecidedAt m x → IsUndecidedAt n y → IsFlawBefore x y
    undecided_in_order m n x y less (t, here, p) (u, there, q) = undecided_before x y t u p q (places_before state order m n t u less here there)

-- ---- sorts

pub tokens_first : (x y : Flaw) → IsTokenFlaw x → IsLaterFlaw y → IsFlawBefore x y
tokens_first x y (t, p) q = subst (λ (f : Flaw). IsFlawBefore f y) (sym p) (later q)
  where
    later : IsLaterFlaw y → IsFlawBefore (Undecided t) y
    later (inl (name, is)) = subst (λ (f : Flaw). IsFlawBefore (Undecided t) f) (sym is) (omega arith)
    later (inr (inl (one, other, is))) = subst (λ (f : Flaw). IsFlawBefore (Undecided t) f) (sym is) (omega arith)
    later (inr (inr (name, is))) = subst (λ (f : Flaw). IsFlawBefore (Undecided t) f) (sym is) (omega arith)

pub values_first : (x y : Flaw) → IsValueFlaw x → IsLateFlaw y → IsFlawBefore x y
values_first x y (n, p) q = subst (λ (f : Flaw). IsFlawBefore f y) (sym p) (later q)
  where
    later : IsLateFlaw y → IsFlawBefore (Undetermined n) y
    later (inl (one, other, is)) = subst (λ (f : Flaw). IsFlawBefore (Undetermined n) f) (sym is) (omega arith)
    later (inr (name, is)) = subst (λ (f : Flaw). IsFlawBefore (Undetermined n) f) (sym is) (omega arith)

pub pairs_first : (x y : Flaw) → IsPairFlaw x → IsTimeFlaw y → IsFlawBefore x y
pairs_first x y (one, other, p) (name, is) = subst (λ (f : Flaw). IsFlawBefore f y) (sym p) (subst (λ (f : Flaw). IsFlawBefore (Unordered one other) f) (sym is) (omega arith))

pub any_sort : (flaw : Flaw) → IsTokenFlaw flaw ⊎ IsLaterFlaw flaw
any_sort (Undecided token) = inl (token, refl)
any_sort (Undetermined name) = inr (inl (name, refl))
any_sort (Unordered one other) = inr (inr (inl (one, other, refl)))
any_sort (Untimed name) = inr (inr (inr (name, refl)))

-- ---- flaws of a state

module _ (model : Model) (decisions : List Decision) (state : State) (is_state : IsState model state) where
  -- the token of a variable that the state gives is there
  pub owner_at : (name : VarName) (domain : Domain) (token : TokenName) → Gives state name domain → BelongsTo name token → (place : ℕ) × IsTokenAt state place token
  owner_at (names.Global number) domain token gives belongs = absurd belongs
  owner_at (names.Token owner part) domain token gives belongs =
      let there = subst (λ (t : TokenName). Contains state.tokens t) belongs ((is_state.variables (names.Token owner part)).1 (domain, gives)).0 in
      let found = get_from_contains state.tokens token there in (found.0, found.1)
  owner_at (names.Local owner rule number) domain token gives belongs =
      let about = (is_state.variables (names.Local owner rule number)).1 (domain, gives) in
      let of = All-contains (IsBlockOf model state) state.blocks about.block is_state.blocks about.is_open in
      let there = subst (λ (t : TokenName). Contains state.tokens t) (about.of_token ∙ belongs) of.0 in
      let found = get_from_contains state.tokens token there in (found.0, found.1)

  -- a variable without a value is a global or one of a token
  by_name : (name : VarName) → IsUntimed name → IsUnbound decisions state name → IsGlobalFlaw state (Undetermined name) ⊎ IsTokenValueFlaw state (Undetermined name)
  by_name (names.Global number) untimed left = inl (number, (names.Global number, refl, refl))
  by_name (names.Token token Start) untimed left = absurd untimed
  by_name (names.Token token End) untimed left = absurd untimed
  by_name (names.Token token Duration) untimed left = absurd untimed
  by_name (names.Token token Object) untimed left =
      let found = owner_at (names.Token token Object) left.domain token left.gives refl in
      inr (found.0, inl (names.Token token Object, (token, found.1, refl), refl))
  by_name (names.Token token (Param number)) untimed left =
      let found = owner_at (names.Token token (Param number)) left.domain token left.gives refl in
      inr (found.0, inr (inl (number, (names.Token token (Param number), (token, found.1, refl), refl))))
  by_name (names.Local token rule number) untimed left =
      let found = owner_at (names.Local token rule number) left.domain token left.gives refl in
      inr (found.0, inr (inr (rule, (number, (names.Local token rule number, (token, found.1, refl), refl)))))

  pub values_are : (flaw : Flaw) → IsValueFlaw flaw → IsFlaw model decisions state flaw → IsGlobalFlaw state flaw ⊎ IsTokenValueFlaw state flaw
  values_are flaw (name, is) has =
      let own = subst (IsFlaw model decisions state) is has in
      subst (λ (f : Flaw). IsGlobalFlaw state f ⊎ IsTokenValueFlaw state f) (sym is) (by_name name own.0 own.1)

  pub global_is_value : (flaw : Flaw) → IsGlobalFlaw state flaw → IsValueFlaw flaw
  global_is_value flaw (number, (name, here, is)) = (name, is)

  pub of_token_is_value : (flaw : Flaw) → IsTokenValueFlaw state flaw → IsValueFlaw flaw
  of_token_is_value flaw (place, sought) = let of = value_of_place state place flaw sought in (of.0, of.2)

  by_time : (name : VarName) → IsTimed name → IsUnbound decisions state name → (place : ℕ) × IsTimeFlawOf state place (Untimed name)
  by_time (names.Global number) timed left = absurd timed
  by_time (names.Local token rule number) timed left = absurd timed
  by_time (names.Token token Start) timed left =
      let found = owner_at (names.Token token Start) left.domain token left.gives refl in
      (found.0, inl (names.Token token Start, (token, found.1, refl), refl))
  by_time (names.Token token Duration) timed left =
      let found = owner_at (names.Token token Duration) left.domain token left.gives refl in
      (found.0, inr (names.Token token Duration, (token, found.1, refl), refl))
  by_time (names.Token token End) timed left = absurd timed
  by_time (names.Token token Object) timed left = absurd timed
  by_time (names.Token token (Param number)) timed left = absurd timed

  pub times_are : (flaw : Flaw) → IsTimeFlaw flaw → IsFlaw model decisions state flaw → (place : ℕ) × IsTimeFlawOf state place flaw
  times_are flaw (name, is) has =
      let own = subst (IsFlaw model decisions state) is has in
      subst (λ (f : Flaw). (place : ℕ) × IsTimeFlawOf state place f) (sym is) (by_time name own.0 own.1)

  pub of_token_is_time : (flaw : Flaw) → ((place : ℕ) × IsTimeFlawOf state place flaw) → IsTimeFlaw flaw
  of_token_is_time flaw (place, sought) = let of = time_of_place state place flaw sought in (of.0, of.2)

  pub undecided_are : (flaw : Flaw) → IsTokenFlaw flaw → IsFlaw model decisions state flaw → (place : ℕ) × ((token : TokenName) × IsTokenAt state place token × (flaw ≡ Undecided token))
  undecided_are flaw (token, is) has =
      let own = subst (IsFlaw model decisions state) is has in
      let found = get_from_contains state.tokens token own.0 in (found.0, (token, found.1, is))

  pub undecided_is : (flaw : Flaw) → ((place : ℕ) × IsUndecidedAt state place flaw) → IsTokenFlaw flaw
  undecided_is flaw (place, (token, here, is)) = (token, is)

  pub undecided_found : (place : ℕ) → ((token : TokenName) × IsTokenAt state place token × (IsDecided model decisions token → ⊥))
      → FirstAt model decisions state (IsUndecidedAt state place) (flaws.Token place)
  undecided_found place (token, here, not) =
      found_one model decisions state (IsUndecidedAt state place) (flaws.Token place) (Undecided token) here (contains_from_get state.tokens place token here, not) (token, here, refl)
      (λ other meant. meant.2 ∙ ap Undecided (one_at state place meant.0 token meant.1 here))

  pub undecided_none : (place : ℕ) → ((token : TokenName) → IsTokenAt state place token → (IsDecided model decisions token → ⊥) → ⊥) → NoneOf model decisions state (IsUndecidedAt state place)
  undecided_none place none flaw (token, here, is) has = none token here (subst (IsFlaw model decisions state) is has).1

  -- ---- what is left unbound

  -- a flaw of a variable says what its name is left with
  pub value_unbound : (flaw : Flaw) (name : VarName) → flaw ≡ Undetermined name → IsFlaw model decisions state flaw → IsUntimed name × IsUnbound decisions state name
  value_unbound flaw name is has = subst (IsFlaw model decisions state) is has

  pub time_unbound : (flaw : Flaw) (name : VarName) → flaw ≡ Untimed name → IsFlaw model decisions state flaw → IsTimed name × IsUnbound decisions state name
  time_unbound flaw name is has = subst (IsFlaw model decisions state) is has

  -- no variable of a rejected token is a flaw
  pub rejected_value : (place : ℕ) → ((token : TokenName) → IsTokenAt state place token → IsRejected decisions token) → (flaw : Flaw) → IsValueFlawOf state place flaw → IsFlaw model decisions state flaw → ⊥
  rejected_value place rejected flaw sought has =
      let of = value_of_place state place flaw sought in
      (value_unbound flaw of.0 of.2 has).1.kept (of.1.0, of.1.2, rejected of.1.0 of.1.1)

  pub rejected_time : (place : ℕ) → ((token : TokenName) → IsTokenAt state place token → IsRejected decisions token) → (flaw : Flaw) → IsTimeFlawOf state place flaw → IsFlaw model decisions state flaw → ⊥
  rejected_time place rejected flaw sought has =
      let of = time_of_place state place flaw sought in
      (time_unbound flaw of.0 of.2 has).1.kept (of.1.0, of.1.2, rejected of.1.0 of.1.1)

  -- where the token isn't rejected, none of its variables is of a rejected token
  pub part_unrejected : (place : ℕ) (part : Part) → ((token : TokenName) → IsTokenAt state place token → IsRejected decisions token → ⊥) → IsOfUnrejected decisions state (at.Part place part)
  part_unrejected place part kept name (token, here, is) (other, own, rejected) =
      let same : token ≡ other = subst (λ (n : VarName). BelongsTo n other) is own in
      kept token here (subst (IsRejected decisions) (sym same) rejected)

  pub token_kept : (place : ℕ) → IsOfUnrejected decisions state (at.Part place Object) → (token : TokenName) → IsTokenAt state place token → IsRejected decisions token → ⊥
  token_kept place kept token here rejected = kept (names.Token token Object) (token, here, refl) (token, refl, rejected)

  pub local_unrejected : (place rule number : ℕ) → ((token : TokenName) → IsTokenAt state place token → IsRejected decisions token → ⊥) → IsOfUnrejected decisions state (at.Local place rule number)
  local_unrejected place rule number kept name (token, here, is) (other, own, rejected) =
      let same : token ≡ other = subst (λ (n : VarName). BelongsTo n other) is own in
      kept token here (subst (IsRejected decisions) (sym same) rejected)

  pub global_unrejected : (number : ℕ) → IsOfUnrejected decisions state (at.Global number)
  global_unrejected number name is (other, own, rejected) = absurd (subst (λ (n : VarName). BelongsTo n other) is own)

  pub global_untimed : (number : ℕ) → IsUntimedAt state (at.Global number)
  global_untimed number name is = subst IsUntimed (sym is) tt

  pub local_untimed : (place rule number : ℕ) → IsUntimedAt state (at.Local place rule number)
  local_untimed place rule number name (token, here, is) = subst IsUntimed (sym is) tt

  pub parameter_untimed : (place number : ℕ) → IsUntimedAt state (at.Part place (Param number))
  parameter_untimed place number name (token, here, is) = subst IsUntimed (sym is) tt

  pub object_untimed : (place : ℕ) → IsUntimedAt state (at.Part place Object)
  object_untimed place name (token, here, is) = subst IsUntimed (sym is) tt

  pub start_timed : (place : ℕ) → IsTimedAt state (at.Part place Start)
  start_timed place name (token, here, is) = subst IsTimed (sym is) tt

  pub duration_timed : (place : ℕ) → IsTimedAt state (at.Part place Duration)
  duration_timed place name (token, here, is) = subst IsTimed (sym is) tt

  -- the variable at the place is the flaw there
  pub value_found : (place : VarPlace) → IsOfUnrejected decisions state place → IsUntimedAt state place → ((name : VarName) × IsVarAt state place name × HasSeveral state name)
      → FirstAt model decisions state (IsValueAt state place) (flaws.Value place)
  value_found place kept untimed (name, here, (domain, gives, several)) =
      found_one model decisions state (IsValueAt state place) (flaws.Value place) (Undetermined name) here
      (untimed name here, record { domain = domain; gives = gives; several = several; kept = kept name here }) (name, here, refl)
      (λ other meant. meant.2 ∙ ap Undetermined (var_once state place meant.0 name meant.1 here))

  pub value_none : (place : VarPlace) → ((name : VarName) → IsVarAt state place name → HasSeveral state name → ⊥) → NoneOf model decisions state (IsValueAt state place)
  value_none place none flaw (name, here, is) has = let left = (value_unbound flaw name is has).1 in none name here (left.domain, left.gives, left.several)

  pub time_found : (place : VarPlace) → IsOfUnrejected decisions state place → IsTimedAt state place → ((name : VarName) × IsVarAt state place name × HasSeveral state name)
      → FirstAt model decisions state (IsTimeAt state place) (flaws.Time place)
  time_found place kept timed (name, here, (domain, gives, several)) =
      found_one model decisions state (IsTimeAt state place) (flaws.Time place) (Untimed name) here
      (timed name here, record { domain = domain; gives = gives; several = several; kept = kept name here }) (name, here, refl)
      (λ other meant. meant.2 ∙ ap Untimed (var_once state place meant.0 name meant.1 here))

  pub time_none : (place : VarPlace) → ((name : VarName) → IsVarAt state place name → HasSeveral state name → ⊥) → NoneOf model decisions state (IsTimeAt state place)
  time_none place none flaw (name, here, is) has = let left = (time_unbound flaw name is has).1 in none name here (left.domain, left.gives, left.several)

  -- ---- how many of each there are

  pub global_below : (number : ℕ) (flaw : Flaw) → IsValueAt state (at.Global number) flaw → IsFlaw model decisions state flaw → number < length model.problem.globals
  global_below number flaw (name, here, is) has =
      let left = (value_unbound flaw name is has).1 in
      (is_state.variables (names.Global number)).1 (left.domain, subst (λ (n : VarName). Gives state n left.domain) here left.gives)

  pub value_place_below : (place : ℕ) (flaw : Flaw) → IsValueFlawOf state place flaw → place < length state.tokens
  value_place_below place flaw sought = let of = value_of_place state place flaw sought in get_below state.tokens place of.1.0 of.1.1

  pub time_place_below : (place : ℕ) (flaw : Flaw) → IsTimeFlawOf state place flaw → place < length state.tokens
  time_place_below place flaw sought = let of = time_of_place state place flaw sought in get_below state.tokens place of.1.0 of.1.1

  pub parameter_given : (place number : ℕ) (flaw : Flaw) → IsValueAt state (at.Part place (Param number)) flaw → IsFlaw model decisions state flaw
      → (token : TokenName) × IsTokenAt state place token × ((slot : Slot) × HasToken model token slot × ((variable : VarDecl) × HasParameter model slot.pred number variable))
  parameter_given place number flaw (name, (token, here, same), is) has =
      let left = (value_unbound flaw name is has).1 in
      let about = (is_state.variables (names.Token token (Param number))).1 (left.domain, subst (λ (n : VarName). Gives state n left.domain) same left.gives) in
      (token, here, (about.1.1.0, about.1.1.1, (about.1.1.2.0, about.1.1.2.1)))

  pub local_given : (place rule number : ℕ) (flaw : Flaw) → IsValueAt state (at.Local place rule number) flaw → IsFlaw model decisions state flaw
      → (token : TokenName) × IsTokenAt state place token × ((domain : Domain) × Gives state (names.Local token rule number) domain)
  local_given place rule number flaw (name, (token, here, same), is) has =
      let left = (value_unbound flaw name is has).1 in
      (token, here, (left.domain, subst (λ (n : VarName). Gives state n left.domain) same left.gives))

  -- ---- pairs

  place_order : (m n : ℕ) (one other : TokenName) → IsTokenAt state m one → IsTokenAt state n other → IsTokenBefore one other → m < n
  place_order m n one other here there before = elim (cases_lt m n) [
    | inl below ↦ below
    | inr not ↦ elim (cases_lt n m) [
      | inl above ↦
          absurd (token_order.irreflexive one (token_order.transitive one other one before (places_before state is_state.order n m other one above there here)))
      | inr neither ↦
          let same : m ≡ n = omega arith in
          let tokens = one_at state n one other (subst (λ k. IsTokenAt state k one) same here) there in
          absurd (token_order.irreflexive other (subst (λ t. IsTokenBefore t other) tokens before))
    ]
  ]

  same_place : (m n : ℕ) (one other : TokenName) → IsTokenAt state m one → IsTokenAt state n other → one ≡ other → m ≡ n
  same_place m n one other here there same = elim (cases_lt m n) [
    | inl below ↦ absurd (token_order.irreflexive other (subst (λ t. IsTokenBefore t other) same (places_before state is_state.order m n one other below here there)))
    | inr not ↦ elim (cases_lt n m) [
      | inl above ↦ absurd (token_order.irreflexive other (subst (λ t. IsTokenBefore other t) same (places_before state is_state.order n m other one above there here)))
      | inr neither ↦ omega arith
    ]
  ]

  -- a pair of tokens without an order stands at two places
  pair_at : (one other : TokenName) → IsFlaw model decisions state (Unordered one other) → (m n : ℕ) × (IsTokenAt state m one × IsTokenAt state n other × IsPairAt model decisions state m n)
  pair_at one other is =
      let first = owner_at (names.Token one Object) is.1.share.one_on.0 one is.1.share.one_on.1 refl in
      let second = owner_at (names.Token other Object) is.1.share.other_on.0 other is.1.share.other_on.1 refl in (
        first.0,
        second.0,
        (
          first.1,
          second.1,
          record {
            before = place_order first.0 second.0 one other first.1 second.1 is.0;
            first = one;
            second = other;
            first_at = first.1;
            second_at = second.1;
            unordered = is.1;
          },
        ),
      )

  pub pair_none : ((m n : ℕ) → IsPairAt model decisions state m n → ⊥) → NoneOf model decisions state IsPairFlaw
  pair_none none flaw (one, other, is) has =
      let found = pair_at one other (subst (IsFlaw model decisions state) is has) in none found.0 found.1 found.2.2

  pub pair_found : (m n : ℕ) → IsFirstPair model decisions state m n → FirstAt model decisions state IsPairFlaw (flaws.Pair m n)
  pair_found m n pair =
      let is = pair.is_pair in (
        Unordered is.first is.second,
        (is.first_at, is.second_at),
        record {
          sought = (is.first, is.second, refl);
          is = (places_before state is_state.order m n is.first is.second is.before is.first_at is.second_at, is.unordered);
          first = λ other sought has less. no_earlier other sought has less;
        },
      )
    where
      by_pairs : (one other : TokenName) → IsFlaw model decisions state (Unordered one other) → IsFlawBefore (Unordered one other) (Unordered pair.is_pair.first pair.is_pair.second) → ⊥
      by_pairs one other has less = by_number (pair.first found.0 found.1 found.2.2) less
        where
          found : (k l : ℕ) × (IsTokenAt state k one × IsTokenAt state l other × IsPairAt model decisions state k l)
          found = pair_at one other has

          by_number : ByNumber m found.0 (n ≤ found.1) → IsFlawBefore (Unordered one other) (Unordered pair.is_pair.first pair.is_pair.second) → ⊥
          by_number later (inl before) =
              let lower = place_order found.0 m one pair.is_pair.first found.2.0 pair.is_pair.first_at before in
              ⊎_elim (λ higher. omega (arith, higher, lower)) (λ same. omega (arith, same.0, lower)) later
          by_number later (inr (same, before)) =
              let here = same_place found.0 m one pair.is_pair.first found.2.0 pair.is_pair.first_at same in
              let lower = place_order found.1 n other pair.is_pair.second found.2.1 pair.is_pair.second_at before in
              ⊎_elim (λ higher. omega (arith, higher, here)) (λ rest. omega (arith, rest.1, lower)) later

      no_earlier : (other : Flaw) → IsPairFlaw other → IsFlaw model decisions state other → IsFlawBefore other (Unordered pair.is_pair.first pair.is_pair.second) → ⊥
      no_earlier other (one, behind, is) has less =
          by_pairs one behind (subst (IsFlaw model decisions state) is has) (subst (λ (f : Flaw). IsFlawBefore f (Unordered pair.is_pair.first pair.is_pair.second)) is less)

-- ---- parameters

pub parameter_below : (model : Model) (pred number : ℕ) (found : Pred) (variable : VarDecl) → slice_get model.preds pred ≡ Some found → HasParameter model pred number variable → number < length found.params
parameter_below model pred number found variable is has =
    let same : has.predicate ≡ found = get_same model.preds pred has.predicate found has.is_predicate is in
    get_below found.params number variable (subst (λ (p : Pred). slice_get p.params number ≡ Some variable) same has.declared)

-- the parameter of a token at a place is below what its predicate has
pub parameter_counted : (known model : Model) (decisions : List Decision) (state : State) → known ≡ model → IsState known state → (place pred count : ℕ)
    → ((token : TokenName) × IsTokenAt state place token × ((slot : Slot) × HasToken model token slot × (slot.pred ≡ pred)))
    → ((number : ℕ) (variable : VarDecl) → HasParameter model pred number variable → number < count)
    → (number : ℕ) (flaw : Flaw) → IsValueAt state (at.Part place (Param number)) flaw → IsFlaw known decisions state flaw → number < count
parameter_counted known model decisions state same is_state place pred count of counts number flaw sought has =
    let given = parameter_given known decisions state is_state place number flaw sought has in
    let own : HasToken model of.0 given.2.0 = subst (λ (t : TokenName). HasToken model t given.2.0) (one_at state place given.0 of.0 given.1 of.1) (subst (λ (m : Model). HasToken m given.0 given.2.0) same given.2.1) in
    let slots = token_once model of.0 given.2.0 of.2.0 own of.2.1 in
    counts number given.2.2.0
    (subst (λ (p : ℕ). HasParameter model p number given.2.2.0) (ap (λ (s : Slot). s.pred) slots ∙ of.2.2) (subst (λ (m : Model). HasParameter m given.2.0.pred number given.2.2.0) same given.2.2.1))

-- so is the number of a local, and that of its rule
module _ (known model : Model) (same : known ≡ model) (decisions : List Decision) (state : State) (settled : IsSettledState known decisions state) (place pred : ℕ)
    (of : (token : TokenName) × IsTokenAt state place token × ((slot : Slot) × HasToken model token slot × (slot.pred ≡ pred))) where
  pub local_counted : (rule count : ℕ) → ((found : Rule) (number : ℕ) (variable : VarDecl) → HasRule model pred rule found → slice_get found.locals number ≡ Some variable → number < count)
      → (number : ℕ) (flaw : Flaw) → IsValueAt state (at.Local place rule number) flaw → IsFlaw known decisions state flaw → number < count
  local_counted rule count counts number flaw sought has =
      let given = local_given known decisions state settled.consistent.is_state place rule number flaw sought has in
      number_below known model same decisions state settled place pred of given.0 given.1 rule number count given.2.0 counts given.2.1

  pub rule_counted : (count : ℕ) → ((number : ℕ) (found : Rule) → HasRule model pred number found → number < count)
      → (rule : ℕ) (flaw : Flaw) → IsRuleFlawAt state place rule flaw → IsFlaw known decisions state flaw → rule < count
  rule_counted count counts rule flaw sought has =
      let given = local_given known decisions state settled.consistent.is_state place rule sought.0 flaw sought.1 has in
      rule_number_below known model same decisions state settled place pred of given.0 given.1 rule sought.0 count given.2.0 counts given.2.1

-- each token of a state has a predicate
pub none_there : (known model : Model) (state : State) → known ≡ model → IsState known state → (place : ℕ)
    → ((token : TokenName) (slot : Slot) → IsTokenAt state place token → HasToken model token slot → ⊥) → (token : TokenName) → IsTokenAt state place token → ⊥
none_there known model state same is_state place none token here =
    let has = get_all (λ t. (slot : Slot) × HasToken known t slot) state.tokens place token is_state.tokens here in
    none token has.0 here (subst (λ (m : Model). HasToken m token has.0) same has.1)
