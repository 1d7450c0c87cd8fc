-- Of the flaws of a state one comes first, or there is none.
use Rattle.std.proofs.Common.{◌⊎◌, inl, inr, ⊎_elim, List, [], ◌∷◌, sym, subst, arith}
use Rattle.std.specs.Prelude.{Contains, map}
use Rattle.domain_core.specs.Domain.{Domain}
use Rattle.eu_name.specs.declared.name.Part.TheVariants as parts
use Rattle.eu_name.specs.declared.name.TokenName.{TokenName}
use Rattle.eu_name.specs.declared.name.VarName.{VarName}
use Rattle.eu_name.specs.declared.name.VarName.TheVariants as names
use Rattle.eu_name.specs.NameOrder.{IsStrictTotalOrder, IsTokenBefore, IsVarBefore}
use Rattle.eu_name.proofs.Ordered.{contains_cases, contains_none}
use Rattle.eu_name.proofs.Orders.{token_order, var_order}
use Rattle.model_core.specs.declared.decision.Decision.{Decision}
use Rattle.model_core.specs.declared.model.Model.{Model}
use Rattle.model_core.specs.State.{State, VarDomain, IsState}
use Rattle.plan_defs.specs.Flaws.{Flaw, Undecided, Undetermined, Unordered, Untimed, IsUnbound, IsFlaw, HasFlaw}
use Rattle.plan_defs.proofs.Knowing.{IsOrNot}
use Rattle.law_states.specs.Undeniable.{Undeniable}
use Rattle.law_states.proofs.Denying.{is_or_not}
use Rattle.law_search.specs.Choices.{IsFlawBefore, IsFirstFlaw}
use Rattle.law_search.specs.Outcomes.{StatesHaveAFirstFlawOrNone}
use Rattle.law_search.proofs.Mapping.{contains_map}

-- ---- the first of a list

module _ {X : Type 0} (before : X → X → Type 0) (order : IsStrictTotalOrder before) (P : X → Type 0) where
  -- one of a list of which it is so, and of none before it
  record IsFirstOf (xs : List X) : Type 0 where
    item : X
    is : P item
    first : (other : X) → Contains xs other → P other → before other item → ⊥

  abbrev NoneOf : List X → Type 0
  NoneOf xs = (other : X) → Contains xs other → P other → ⊥

  none_more : (x : X) (xs : List X) → (P x → ⊥) → NoneOf xs → NoneOf (x ∷ xs)
  none_more x xs not rest other there is =
      ⊎_elim (λ same. not (subst P (sym same) is)) (λ later. rest other later is) (contains_cases x other xs there)

  -- of none but this one
  alone : (x : X) (xs : List X) → P x → NoneOf xs → IsFirstOf (x ∷ xs)
  alone x xs is rest = record {
    item = x;
    is = is;
    first = λ other there so less.
        ⊎_elim (λ same. order.irreflexive x (subst (λ z. before z x) (sym same) less)) (λ later. rest other later so) (contains_cases x other xs there);
  }

  still_first : (x : X) (xs : List X) → (found : IsFirstOf xs) → (P x → before x found.item → ⊥) → IsFirstOf (x ∷ xs)
  still_first x xs found not_before = record {
    item = found.item;
    is = found.is;
    first = λ other there so less.
        ⊎_elim (λ same. not_before (subst P (sym same) so) (subst (λ z. before z found.item) (sym same) less)) (λ later. found.first other later so less)
        (contains_cases x other xs there);
  }

  now_first : (x : X) (xs : List X) → P x → (found : IsFirstOf xs) → before x found.item → IsFirstOf (x ∷ xs)
  now_first x xs is found less = record {
    item = x;
    is = is;
    first = λ other there so lesser.
        ⊎_elim (λ same. order.irreflexive x (subst (λ z. before z x) (sym same) lesser))
        (λ later. found.first other later so (order.transitive other x found.item lesser less)) (contains_cases x other xs there);
  }

  one_more : (x : X) (xs : List X) → P x → (found : IsFirstOf xs) → IsFirstOf (x ∷ xs)
  one_more x xs is found = elim (order.total x found.item) [
    | inl less ↦ now_first x xs is found less
    | inr (inl same) ↦ still_first x xs found (λ so less. order.irreflexive found.item (subst (λ z. before z found.item) same less))
    | inr (inr more) ↦ still_first x xs found (λ so less. order.irreflexive x (order.transitive x found.item x less more))
  ]

  with_next : (x : X) (xs : List X) → IsOrNot (P x) → NoneOf xs ⊎ IsFirstOf xs → NoneOf (x ∷ xs) ⊎ IsFirstOf (x ∷ xs)
  with_next x xs (inl is) (inl rest) = inr (alone x xs is rest)
  with_next x xs (inl is) (inr found) = inr (one_more x xs is found)
  with_next x xs (inr not) (inl rest) = inl (none_more x xs not rest)
  with_next x xs (inr not) (inr found) = inr (still_first x xs found (λ is less. not is))

  none_or_first : (xs : List X) → Undeniable (NoneOf xs ⊎ IsFirstOf xs)
  none_or_first [] none = none (inl (λ other there is. contains_none other there))
  none_or_first (x ∷ xs) none = is_or_not (P x) (λ head. none_or_first xs (λ rest. none (with_next x xs head rest)))

-- ---- the first flaw

abbrev name_of : VarDomain → VarName
name_of entry = entry.name

module _ (model : Model) (decisions : List Decision) (state : State) (is_state : IsState model state)
    (none : (HasFlaw model decisions state → ⊥) ⊎ ((flaw : Flaw) × IsFirstFlaw model decisions state flaw) → ⊥) where
  abbrev Is : Flaw → Type 0
  Is flaw = IsFlaw model decisions state flaw

  abbrev variables : List VarName
  variables = map name_of state.entries

  given : (name : VarName) → IsUnbound decisions state name → Contains variables name
  given name is = contains_map name_of state.entries (record { name = name; domain = is.domain }) is.gives

  -- a token that is on an object is there
  on_there : (token : TokenName) (object : Domain) → Contains state.entries (record { name = names.Token token parts.Object; domain = object }) → Contains state.tokens token
  on_there token object gives = ((is_state.variables (names.Token token parts.Object)).1 (object, gives)).0

  abbrev NoUndecided : Type 0
  NoUndecided = (token : TokenName) → Is (Undecided token) → ⊥

  abbrev NoUndetermined : Type 0
  NoUndetermined = (name : VarName) → Is (Undetermined name) → ⊥

  abbrev NoUnordered : Type 0
  NoUnordered = (one other : TokenName) → Is (Unordered one other) → ⊥

  abbrev NoUntimed : Type 0
  NoUntimed = (name : VarName) → Is (Untimed name) → ⊥

  no_flaw : NoUndecided → NoUndetermined → NoUnordered → NoUntimed → (flaw : Flaw) → Is flaw → ⊥
  no_flaw a b c d (Undecided token) is = a token is
  no_flaw a b c d (Undetermined name) is = b name is
  no_flaw a b c d (Unordered one other) is = c one other is
  no_flaw a b c d (Untimed name) is = d name is

  at_untimed : NoUndecided → NoUndetermined → NoUnordered → NoneOf IsVarBefore var_order (λ name. Is (Untimed name)) variables
      ⊎ IsFirstOf IsVarBefore var_order (λ name. Is (Untimed name)) variables → ⊥
  at_untimed a b c (inl rest) = none (inl (λ has. no_flaw a b c (λ name is. rest name (given name is.1) is) has.0 has.1))
  at_untimed a b c (inr found) = none (inr (Untimed found.item, record { is = found.is; first = first }))
    where
      first : (other : Flaw) → Is other → IsFlawBefore other (Untimed found.item) → ⊥
      first (Undecided token) is less = a token is
      first (Undetermined name) is less = b name is
      first (Unordered one other) is less = c one other is
      first (Untimed name) is less = found.first name (given name is.1) is less

  -- the second token of an unordered pair of which the first comes first
  abbrev HasBehind : TokenName → Type 0
  HasBehind one = (other : TokenName) × Is (Unordered one other)

  at_second : NoUndecided → NoUndetermined → (one : IsFirstOf IsTokenBefore token_order HasBehind state.tokens)
      → NoneOf IsTokenBefore token_order (λ other. Is (Unordered one.item other)) state.tokens
      ⊎ IsFirstOf IsTokenBefore token_order (λ other. Is (Unordered one.item other)) state.tokens → ⊥
  at_second a b one (inl rest) =
      let is = one.is.1.1 in rest one.is.0 (on_there one.is.0 is.share.other_on.0 is.share.other_on.1) one.is.1
  at_second a b one (inr found) = none (inr (Unordered one.item found.item, record { is = found.is; first = first }))
    where
      first : (other : Flaw) → Is other → IsFlawBefore other (Unordered one.item found.item) → ⊥
      first (Undecided token) is less = a token is
      first (Undetermined name) is less = b name is
      first (Unordered before behind) is (inl less) =
          one.first before (on_there before is.1.share.one_on.0 is.1.share.one_on.1) (behind, is) less
      first (Unordered before behind) is (inr both) =
          found.first behind (on_there behind is.1.share.other_on.0 is.1.share.other_on.1) (subst (λ (t : TokenName). Is (Unordered t behind)) both.0 is) both.1
      first (Untimed name) is less = absurd (omega (arith, less))

  at_unordered : NoUndecided → NoUndetermined → NoneOf IsTokenBefore token_order HasBehind state.tokens
      ⊎ IsFirstOf IsTokenBefore token_order HasBehind state.tokens → ⊥
  at_unordered a b (inl rest) = none_or_first IsVarBefore var_order (λ name. Is (Untimed name)) variables
      (at_untimed a b (λ one other is. rest one (on_there one is.1.share.one_on.0 is.1.share.one_on.1) (other, is)))
  at_unordered a b (inr one) = none_or_first IsTokenBefore token_order (λ other. Is (Unordered one.item other)) state.tokens (at_second a b one)

  at_undetermined : NoUndecided → NoneOf IsVarBefore var_order (λ name. Is (Undetermined name)) variables
      ⊎ IsFirstOf IsVarBefore var_order (λ name. Is (Undetermined name)) variables → ⊥
  at_undetermined a (inl rest) = none_or_first IsTokenBefore token_order HasBehind state.tokens
      (at_unordered a (λ name is. rest name (given name is.1) is))
  at_undetermined a (inr found) = none (inr (Undetermined found.item, record { is = found.is; first = first }))
    where
      first : (other : Flaw) → Is other → IsFlawBefore other (Undetermined found.item) → ⊥
      first (Undecided token) is less = a token is
      first (Undetermined name) is less = found.first name (given name is.1) is less
      first (Unordered one other) is less = absurd (omega (arith, less))
      first (Untimed name) is less = absurd (omega (arith, less))

  at_undecided : NoneOf IsTokenBefore token_order (λ token. Is (Undecided token)) state.tokens
      ⊎ IsFirstOf IsTokenBefore token_order (λ token. Is (Undecided token)) state.tokens → ⊥
  at_undecided (inl rest) = none_or_first IsVarBefore var_order (λ name. Is (Undetermined name)) variables
      (at_undetermined (λ token is. rest token is.0 is))
  at_undecided (inr found) = none (inr (Undecided found.item, record { is = found.is; first = first }))
    where
      first : (other : Flaw) → Is other → IsFlawBefore other (Undecided found.item) → ⊥
      first (Undecided token) is less = found.first token is.0 is less
      first (Undetermined name) is less = absurd (omega (arith, less))
      first (Unordered one other) is less = absurd (omega (arith, less))
      first (Untimed name) is less = absurd (omega (arith, less))

  not_without : ⊥
  not_without = none_or_first IsTokenBefore token_order (λ token. Is (Undecided token)) state.tokens at_undecided

pub first_flaw_or_none : StatesHaveAFirstFlawOrNone
first_flaw_or_none model decisions state is none = not_without model decisions state is none
