-- The search for a number of which another one is twice.
use Rattle.std.proofs.Common.{◌≡◌, ℕ, suc, zero, ◌+◌, ◌≤◌, List, [], ◌∷◌, ◌++◌, ℤ, pos, ◌+ℤ◌, ◌≤ℤ◌, ◌<ℤ◌, false, inl, inr, refl, sym, ap, ◌∙◌, subst, arith}
use Rattle.std.specs.Prelude.{Contains, AllPairs, map}
use Rattle.std.specs.List.{AllZip}
use Rattle.std.proofs.lemmas.Int.{ints, by_lt_z}
use Rattle.std.proofs.lemmas.List.Elements.{All-contains}
use Rattle.domain_core.specs.Consistency.{Ends, Admits, IsSupported}
use Rattle.domain_core.specs.Constraints.{HoldsOf, AgreeOn}
use Rattle.domain_core.specs.Domain.{Domain, Range, Set, IsDomain, IsWithin, IsSingle, IsTested, IsBetweenEnds}
use Rattle.domain_core.specs.declared.kind.Kind.TheVariants.{AddEq}
use Rattle.domain_core.proofs.Words.{single_least, single_greatest}
use Rattle.eu_name.specs.declared.name.VarName.{VarName}
use Rattle.eu_name.specs.declared.name.VarName.TheVariants.{Global, Token}
use Rattle.eu_name.specs.declared.name.Part.TheVariants.{Object}
use Rattle.eu_name.specs.NameOrder.{IsVarBefore}
use Rattle.eu_name.proofs.Orders.{var_order}
use Rattle.eu_name.proofs.Ordered.{contains_head, contains_later, contains_cases, contains_none, ordered_none, ordered_one, ordered_cons}
use Rattle.model_core.specs.declared.decision.Decision.{Decision}
use Rattle.model_core.specs.declared.decision.Decision.TheVariants.{Specify}
use Rattle.model_core.specs.declared.variable.Base.TheVariants.{Given}
use Rattle.model_core.specs.declared.variable.VarDecl.{VarDecl}
use Rattle.model_core.specs.Decided.{IsTaken}
use Rattle.model_core.specs.State.{State, VarDomain, Gives, GivesWithin, IsBelow}
use Rattle.model_core.specs.Variables.{HasBase, IsInBase}
use Rattle.plan_defs.specs.Claims.{Claim, IsOfProblem, ItemSays}
use Rattle.plan_defs.specs.Closure.{IsClosed, IsLeast, IsCollapsed, IsRespected, AreInBase}
use Rattle.plan_defs.specs.Consistency.{IsClaimConsistent, HasField}
use Rattle.plan_defs.specs.Flaws.{Flaw, Undecided, Undetermined, Unordered, Untimed, IsFlaw, HasFlaw, IsUnbound}
use Rattle.plan_defs.specs.Terms.{Argument, Value, Variable, InProblem, Means, HasDomain, ArgumentCounts}
use Rattle.model_core.specs.declared.item.Term.TheVariants as term
use Rattle.law_search.specs.Choices.{IsFlawBefore, IsFirstFlaw, AreValueChoices}
use Rattle.law_search.specs.Search.{SearchOutcome, Finds, Fails, Stops, VisitsEach, LooksAtState, IsVisitOf}
use Rattle.law_search.proofs.Once.{visits_once}
use Rattle.law_search.proofs.Searching.{stops_not_fails, finds_not_fails}
use Rattle.law_examples.specs.Globals.{up_to, with_x}
use Rattle.law_examples.specs.Searched.{declared_to, twice_is, halved, ended, ComesOut}
use Rattle.law_examples.specs.Worlds.{between, x_is}
use Rattle.law_examples.proofs.Lawful.{halved_lawful}
use Rattle.law_examples.proofs.Lists.{all_members, only_member, same_some}
use Rattle.law_examples.proofs.Tuples.{three_consistent}
use Rattle.law_examples.proofs.Variables.{IsGranted, by_name, closed, no_object, gives_x, is_x, no_decision}

-- ---- the numbers from one on

abbrev pub upward : ℕ → ℕ → List ℤ
upward start zero = []
upward start (suc count) = pos start ∷ upward (suc start) count

pub in_upward : (start count : ℕ) (value : ℤ) → pos start ≤ℤ value → value <ℤ pos (start + count) → Contains (upward start count) value
in_upward start zero value low high = absurd (omega (arith, ints, low, high))
in_upward start (suc count) value low high =
    by_lt_z (pos start) value
    (λ less. contains_later (pos start) value (upward (suc start) count) (in_upward (suc start) count value (omega (arith, ints, less)) (omega (arith, ints, high))))
    (λ most. let same : pos start ≡ value = omega (arith, ints, low, most) in subst (Contains (upward start (suc count))) same (contains_head (pos start) (upward (suc start) count)))

pub upward_in : (start count : ℕ) (value : ℤ) → Contains (upward start count) value → (pos start ≤ℤ value) × (value <ℤ pos (start + count))
upward_in start zero value c = absurd (contains_none value c)
upward_in start (suc count) value c = elim (contains_cases (pos start) value (upward (suc start) count) c) [
  | inl same ↦ (omega (arith, ints, same), omega (arith, ints, same))
  | inr later ↦ (let has = upward_in (suc start) count value later in (omega (arith, ints, has.0), omega (arith, ints, has.1)))
]

pub upward_ascends : (start count : ℕ) → AllPairs (λ (one other : ℤ). one <ℤ other) (upward start count)
upward_ascends start zero = ordered_none (λ (one other : ℤ). one <ℤ other)
upward_ascends start (suc count) =
    ordered_cons (λ (one other : ℤ). one <ℤ other) (pos start) (upward (suc start) count)
    (λ value c. let has = upward_in (suc start) count value c in omega (arith, ints, has.0))
    (upward_ascends (suc start) count)

-- ---- what the problem says

abbrev x : Argument
x = Variable (Global 0)

abbrev sum_claim : ℕ → Claim
sum_claim number = record { kind = AddEq; arguments = x ∷ x ∷ Value (pos number) ∷ [] }

module _ (number : ℕ) where
  arguments_are : (arguments : List Argument) → AllZip (Means InProblem) (term.Global 0 ∷ term.Global 0 ∷ term.Lit (pos number) ∷ []) arguments → arguments ≡ x ∷ x ∷ Value (pos number) ∷ []
  arguments_are [] means = absurd means
  arguments_are (a ∷ []) means = absurd means.1
  arguments_are (a ∷ b ∷ []) means = absurd means.1.1
  arguments_are (a ∷ b ∷ c ∷ d ∷ rest) means = absurd means.1.1.1
  arguments_are (a ∷ b ∷ c ∷ []) means = (λ i. means.0 i ∷ means.1.0 i ∷ means.1.1.0 i ∷ [])

  claim_is : (decisions : List Decision) (claim : Claim) → IsOfProblem (halved number) (IsTaken decisions) claim → sum_claim number ≡ claim
  claim_is decisions claim p =
      let item = only_member (twice_is number) p.item p.stands in
      let says = subst (λ i. ItemSays (halved number) (IsTaken decisions) InProblem i claim) (sym item) p.says in
      let arguments = arguments_are claim.arguments says.means in
      let kinds = says.is_kind in
      let same : claim ≡ sum_claim number = (λ i. record { kind = kinds i; arguments = arguments i }) in
      sym same

  counts : (decisions : List Decision) (argument : Argument) → Contains (x ∷ x ∷ Value (pos number) ∷ []) argument → ArgumentCounts (halved number) (IsTaken decisions) argument
  counts decisions argument c = elim (contains_cases x argument (x ∷ Value (pos number) ∷ []) c) [
    | inl same ↦ subst (ArgumentCounts (halved number) (IsTaken decisions)) same (λ token belongs rejectable. absurd belongs)
    | inr later ↦ elim (contains_cases x argument (Value (pos number) ∷ []) later) [
      | inl same ↦ subst (ArgumentCounts (halved number) (IsTaken decisions)) same (λ token belongs rejectable. absurd belongs)
      | inr last ↦ subst (ArgumentCounts (halved number) (IsTaken decisions)) (only_member (Value (pos number)) argument last) tt
    ]
  ]

  the_claim : (decisions : List Decision) → IsOfProblem (halved number) (IsTaken decisions) (sum_claim number)
  the_claim decisions = record {
    item = twice_is number;
    stands = contains_head (twice_is number) [];
    says = record {
      is_kind = refl;
      means = (refl, (refl, (refl, tt)));
      counts = all_members (ArgumentCounts (halved number) (IsTaken decisions)) (x ∷ x ∷ Value (pos number) ∷ []) (counts decisions);
    };
  }

-- ---- states of x from one number to another

abbrev from_to : ℕ → ℕ → State
from_to low high = with_x (between low high)

-- where the ends make the number, the claim is consistent
module _ (number low high : ℕ) (sum : low + high ≡ number) (order : low ≤ high) where
  low_between : IsBetweenEnds (between low high) (pos low)
  low_between = (omega (arith, ints), omega (arith, ints, order))

  high_between : IsBetweenEnds (between low high) (pos high)
  high_between = (omega (arith, ints, order), omega (arith, ints))

  number_between : IsBetweenEnds (between number number) (pos number)
  number_between = (omega (arith, ints), omega (arith, ints))

  first_supported : (v : ℤ) → IsTested (between low high) v → IsSupported Ends (HoldsOf AddEq) [] v (between low high ∷ between number number ∷ [])
  first_supported v (inl e) = let h : (v +ℤ pos high) ≡ pos number = omega (arith, ints, e, sum) in ([], pos high ∷ pos number ∷ [], tt, (high_between, (number_between, tt)), h)
  first_supported v (inr e) = let h : (v +ℤ pos low) ≡ pos number = omega (arith, ints, e, sum) in ([], pos low ∷ pos number ∷ [], tt, (low_between, (number_between, tt)), h)

  second_supported : (v : ℤ) → IsTested (between low high) v → IsSupported Ends (HoldsOf AddEq) (between low high ∷ []) v (between number number ∷ [])
  second_supported v (inl e) = let h : (pos high +ℤ v) ≡ pos number = omega (arith, ints, e, sum) in (pos high ∷ [], pos number ∷ [], (high_between, tt), (number_between, tt), h)
  second_supported v (inr e) = let h : (pos low +ℤ v) ≡ pos number = omega (arith, ints, e, sum) in (pos low ∷ [], pos number ∷ [], (low_between, tt), (number_between, tt), h)

  third_supported : (v : ℤ) → IsTested (between number number) v → IsSupported Ends (HoldsOf AddEq) (between low high ∷ between low high ∷ []) v []
  third_supported v (inl e) = let h : (pos low +ℤ pos high) ≡ v = omega (arith, ints, e, sum) in (pos low ∷ pos high ∷ [], [], (low_between, (high_between, tt)), tt, h)
  third_supported v (inr e) = let h : (pos low +ℤ pos high) ≡ v = omega (arith, ints, e, sum) in (pos low ∷ pos high ∷ [], [], (low_between, (high_between, tt)), tt, h)

  sum_consistent : IsClaimConsistent (halved number) (from_to low high) (sum_claim number)
  sum_consistent = record {
    domains = between low high ∷ between low high ∷ between number number ∷ [];
    have = (gives_x (between low high), (gives_x (between low high), (refl, tt)));
    agree = three_consistent Ends (HoldsOf AddEq) (between low high) (between low high) (between number number) first_supported second_supported third_supported;
  }

  -- and the state is closed
  sum_closed : number ≤ 10 → (decisions : List Decision) → ((decision : Decision) → Contains decisions decision → IsGranted (halved number) (from_to low high) decision)
      → IsClosed (halved number) decisions (from_to low high)
  sum_closed few decisions granted =
      closed [] [] (declared_to number ∷ []) (twice_is number ∷ []) decisions (from_to low high).entries (no_object (declared_to number ∷ []) (twice_is number ∷ []))
      (ordered_one by_name (record { name = Global 0; domain = between low high }))
      (λ n within. let zero_is : 0 ≡ n = omega (arith, within) in (between low high, subst (λ k. Gives (from_to low high) (Global k) (between low high)) zero_is (gives_x (between low high))))
      (λ name domain gives. (0, (is_x (between low high) name domain gives).0, omega arith))
      (all_members (λ (entry : VarDomain). IsDomain entry.domain) (from_to low high).entries
      (λ entry c. subst (λ (e : VarDomain). IsDomain e.domain) (only_member (record { name = Global 0; domain = between low high }) entry c) is_domain))
      in_base granted (λ claim p. subst (IsClaimConsistent (halved number) (from_to low high)) (claim_is number decisions claim p) sum_consistent)
    where
      is_domain : IsDomain (between low high)
      is_domain = ((omega (arith, ints), omega (arith, ints, sum, few)), (omega (arith, ints), omega (arith, ints, sum, few)), omega (arith, ints, order))

      within : IsWithin (between low high) (up_to number)
      within = record { kind = tt; values = λ v has. (omega (arith, ints, has.0), omega (arith, ints, has.1, sum)) }

      in_base : AreInBase (halved number) (from_to low high)
      in_base name domain gives =
          let is = is_x (between low high) name domain gives in (
            Given (up_to number),
            subst (λ n. HasBase (halved number) n (Given (up_to number))) (sym is.0) (declared_to number, refl, refl),
            subst (λ d. IsWithin d (up_to number)) is.1 within,
          )

-- ---- other closed states

module _ (number : ℕ) (decisions : List Decision) (other : State) (p : IsClosed (halved number) decisions other) where
  base_within : (domain : Domain) → Gives other (Global 0) domain → IsWithin domain (up_to number)
  base_within domain gives =
      let found = p.consistent.in_base (Global 0) domain gives in
      let variable : declared_to number ≡ found.1.0 = same_some (declared_to number) found.1.0 found.1.1 in
      subst (IsInBase domain) (found.1.2 ∙ ap (λ (v : VarDecl). v.base) (sym variable)) found.2

  x_domain : (domain : Domain) → Gives other (Global 0) domain → IsDomain domain
  x_domain domain gives = All-contains (λ (entry : VarDomain). IsDomain entry.domain) other.entries (record { name = Global 0; domain = domain }) p.consistent.is_state.domains gives

-- a state of x that has what every closed state has is the least one
least_of : (number low high : ℕ) (decisions : List Decision) → IsClosed (halved number) decisions (from_to low high)
    → ((other : State) → IsClosed (halved number) decisions other → (domain : Domain) → Gives other (Global 0) domain → IsWithin domain (between low high))
    → IsLeast (halved number) decisions (from_to low high)
least_of number low high decisions is_closed within = record { closed = is_closed; below = below }
  where
    below : (other : State) → IsClosed (halved number) decisions other → IsBelow (from_to low high) other
    below other p = record {
      tokens = λ token c. absurd (contains_none token c);
      blocks = λ block c. absurd (contains_none block c);
      variables = λ name domain gives.
          let is = is_x (between low high) name domain gives in
          let found = (p.consistent.is_state.variables (Global 0)).0 (omega arith) in
          subst (λ n. GivesWithin other n domain) (sym is.0) (subst (GivesWithin other (Global 0)) is.1 (found.0, found.1, within other p found.0 found.1));
    }

whole_least : (number : ℕ) → number ≤ 10 → IsLeast (halved number) [] (from_to 0 number)
whole_least number few =
    least_of number 0 number [] (sum_closed number 0 number (omega arith) (omega arith) few [] (no_decision (halved number) (from_to 0 number)))
    (λ other p domain gives. base_within number [] other p domain gives)

-- ---- a value that is decided

single_of : (value : ℕ) → IsSingle (between value value) (pos value)
single_of value = record { has = (omega (arith, ints), omega (arith, ints)); only = λ v has. omega (arith, ints, has.0, has.1) }

single_within : (number value : ℕ) (domain : Domain) → IsWithin domain (up_to number) → IsSingle domain (pos value) → IsWithin domain (between value value)
single_within number value (Range low high) within single =
    record { kind = tt; values = λ v has. let same = single.only v has in (omega (arith, ints, same), omega (arith, ints, same)) }
single_within number value (Set members) within single = absurd within.kind

-- its double is the number wherever something is left
module _ (number value : ℕ) (other : State) (p : IsClosed (halved number) (x_is value ∷ []) other) where
  x_single : (domain : Domain) → Gives other (Global 0) domain → IsSingle domain (pos value)
  x_single domain gives = p.consistent.respected (x_is value) (contains_head (x_is value) []) domain gives

  x_value : (domain : Domain) → Gives other (Global 0) domain → (v : ℤ) → IsBetweenEnds domain v → v ≡ pos value
  x_value domain gives v inside =
      let is_domain = x_domain number (x_is value ∷ []) other p domain gives in
      let low = single_least domain (pos value) is_domain (x_single domain gives) in
      let high = single_greatest domain (pos value) is_domain (x_single domain gives) in
      omega (arith, ints, low, high, inside.0, inside.1)

  tuple_doubles : (a b : Domain) → Gives other (Global 0) a → Gives other (Global 0) b → (left right : List ℤ) → AllZip (Admits Ends) (a ∷ b ∷ []) left → AllZip (Admits Ends) [] right
      → HoldsOf AddEq (left ++ pos number ∷ right) → value + value ≡ number
  tuple_doubles a b gives gives' [] right before after holds = absurd before
  tuple_doubles a b gives gives' (v ∷ []) right before after holds = absurd before.1
  tuple_doubles a b gives gives' (v ∷ w ∷ more ∷ left) right before after holds = absurd before.1.1
  tuple_doubles a b gives gives' (v ∷ w ∷ []) (u ∷ right) before after holds = absurd after
  tuple_doubles a b gives gives' (v ∷ w ∷ []) [] before after holds =
      let first = x_value a gives v before.0 in
      let second = x_value b gives' w before.1.0 in
      omega (arith, ints, first, second, holds)

  domains_double : (domains : List Domain) → AllZip (HasDomain (Gives other)) (x ∷ x ∷ Value (pos number) ∷ []) domains → AgreeOn (HasField (halved number)) AddEq domains → value + value ≡ number
  domains_double [] have agree = absurd have
  domains_double (a ∷ []) have agree = absurd have.1
  domains_double (a ∷ b ∷ []) have agree = absurd have.1.1
  domains_double (a ∷ b ∷ c ∷ d ∷ rest) have agree = absurd have.1.1.1
  domains_double (a ∷ b ∷ c ∷ []) have agree =
      let supported = agree (a ∷ b ∷ []) c [] (pos number) refl (subst (λ d. IsTested d (pos number)) (sym have.1.1.0) (inl refl)) in
      tuple_doubles a b have.0 have.1.0 supported.0 supported.1 supported.2 supported.3 supported.4

  doubles : value + value ≡ number
  doubles =
      let claim = p.consistent.claims (sum_claim number) (inl (the_claim number (x_is value ∷ []))) in
      domains_double claim.domains claim.have claim.agree

odd : (number value : ℕ) → (value + value ≡ number → ⊥) → IsCollapsed (halved number) (x_is value ∷ [])
odd number value differs other p = differs (doubles number value other p)

half_least : (number value : ℕ) → number ≤ 10 → value + value ≡ number → IsLeast (halved number) (x_is value ∷ []) (from_to value value)
half_least number value few same =
    least_of number value value (x_is value ∷ []) (sum_closed number value value same (omega arith) few (x_is value ∷ []) granted)
    (λ other p domain gives. single_within number value domain (base_within number (x_is value ∷ []) other p domain gives) (x_single number value other p domain gives))
  where
    respected : IsRespected (x_is value) (from_to value value)
    respected domain gives = subst (λ d. IsSingle d (pos value)) (is_x (between value value) (Global 0) domain gives).1 (single_of value)

    granted : (decision : Decision) → Contains (x_is value ∷ []) decision → IsGranted (halved number) (from_to value value) decision
    granted decision c = subst (IsGranted (halved number) (from_to value value)) (only_member (x_is value) decision c) respected

-- ---- flaws

-- x alone is open, as long as it has two values
first_flaw : (number : ℕ) → 1 ≤ number → IsFirstFlaw (halved number) [] (from_to 0 number) (Undetermined (Global 0))
first_flaw number some = record {
  is = (
    tt,
    record {
      domain = between 0 number;
      gives = gives_x (between 0 number);
      several = λ value single.
          let low = single.only (pos 0) (omega (arith, ints), omega (arith, ints)) in
          let high = single.only (pos number) (omega (arith, ints), omega (arith, ints)) in
          omega (arith, ints, low, high, some);
      kept = λ rejected. rejected.1;
    },
  );
  first = first;
}
  where
    first : (other : Flaw) → IsFlaw (halved number) [] (from_to 0 number) other → IsFlawBefore other (Undetermined (Global 0)) → ⊥
    first (Undecided token) is before = contains_none token is.0
    first (Undetermined name) is before =
        let same = (is_x (between 0 number) name is.1.domain is.1.gives).0 in
        var_order.irreflexive (Global 0) (subst (λ n. IsVarBefore n (Global 0)) same before)
    first (Unordered one behind) is before = omega (arith, before)
    first (Untimed name) is before = omega (arith, before)

no_flaw : (number value : ℕ) → HasFlaw (halved number) (x_is value ∷ []) (from_to value value) → ⊥
no_flaw number value (flaw, is) = none flaw is
  where
    bound : (name : VarName) → IsUnbound (x_is value ∷ []) (from_to value value) name → ⊥
    bound name unbound = unbound.several (pos value) (subst (λ d. IsSingle d (pos value)) (is_x (between value value) name unbound.domain unbound.gives).1 (single_of value))

    none : (flaw : Flaw) → IsFlaw (halved number) (x_is value ∷ []) (from_to value value) flaw → ⊥
    none (Undecided token) is = contains_none token is.0
    none (Undetermined name) is = bound name is.1
    none (Unordered one behind) is = let named = (is_x (between value value) (Token one Object) is.1.share.one_on.0 is.1.share.one_on.1).0 in cc
    none (Untimed name) is = bound name is.1

-- ---- visits

abbrev choices_to : ℕ → List Decision
choices_to number = map (λ value. Specify (Global 0) value) (upward 0 (suc number))

are_choices : (number : ℕ) → AreValueChoices (from_to 0 number) (Global 0) (choices_to number)
are_choices number = record {
  domain = between 0 number;
  gives = gives_x (between 0 number);
  values = upward 0 (suc number);
  ascending = upward_ascends 0 (suc number);
  all = λ value. (
    λ c. (let has = upward_in 0 (suc number) value c in (has.0, omega (arith, ints, has.1))),
    λ has. in_upward 0 (suc number) value has.0 (omega (arith, ints, has.1)),
  );
  are = refl;
}

-- the first visit looks at x
looks : (number : ℕ) → 1 ≤ number → number ≤ 10 → (Visit : ℕ → List Decision → SearchOutcome → Type 0) (units : ℕ) (outcome : SearchOutcome)
    → VisitsEach Visit [] (choices_to number) units false outcome → LooksAtState (halved number) 512 Visit [] units outcome
looks number some few Visit units outcome visits = record {
  state = from_to 0 number;
  least = whole_least number few;
  looks = inr (record {
    flaw = Undetermined (Global 0);
    is_first = first_flaw number some;
    choices = choices_to number;
    are = are_choices number;
    out = false;
    tells = λ state left. left;
    visits = visits;
  });
}

pub three_exhausted : ComesOut 3 5 (ended Fails 0)
three_exhausted = inr (looks 3 (omega arith) (omega arith) (IsVisitOf (halved 3) 512 4) 4 (ended Fails 0) (
  ended Fails 3,
  inl (odd 3 0 (λ e. omega (arith, e)), refl),
  inl (
    refl,
    (
      ended Fails 2,
      inl (odd 3 1 (λ e. omega (arith, e)), refl),
      inl (
        refl,
        (
          ended Fails 1,
          inl (odd 3 2 (λ e. omega (arith, e)), refl),
          inl (
            refl,
            (ended Fails 0, inl (odd 3 3 (λ e. omega (arith, e)), refl), inl (refl, refl)),
          ),
        ),
      ),
    ),
  ),
))

pub three_left_over : ComesOut 3 6 (ended Fails 1)
three_left_over = inr (looks 3 (omega arith) (omega arith) (IsVisitOf (halved 3) 512 5) 5 (ended Fails 1) (
  ended Fails 4,
  inl (odd 3 0 (λ e. omega (arith, e)), refl),
  inl (
    refl,
    (
      ended Fails 3,
      inl (odd 3 1 (λ e. omega (arith, e)), refl),
      inl (
        refl,
        (
          ended Fails 2,
          inl (odd 3 2 (λ e. omega (arith, e)), refl),
          inl (
            refl,
            (ended Fails 1, inl (odd 3 3 (λ e. omega (arith, e)), refl), inl (refl, refl)),
          ),
        ),
      ),
    ),
  ),
))

pub three_stopped : ComesOut 3 4 (ended Stops 0)
three_stopped = inr (looks 3 (omega arith) (omega arith) (IsVisitOf (halved 3) 512 3) 3 (ended Stops 0) (
  ended Fails 2,
  inl (odd 3 0 (λ e. omega (arith, e)), refl),
  inl (
    refl,
    (
      ended Fails 1,
      inl (odd 3 1 (λ e. omega (arith, e)), refl),
      inl (
        refl,
        (
          ended Fails 0,
          inl (odd 3 2 (λ e. omega (arith, e)), refl),
          inl (
            refl,
            (ended Stops 0, refl, inr (stops_not_fails, refl)),
          ),
        ),
      ),
    ),
  ),
))

-- a search has one outcome
only : (number units : ℕ) → number ≤ 10 → (one other : SearchOutcome) → ComesOut number units one → ComesOut number units other → one ≡ other
only number units few one other p q = visits_once (halved number) (halved_lawful number few) 512 (omega arith) units units [] one other refl p q

pub three_only : (outcome : SearchOutcome) → ComesOut 3 5 outcome → outcome ≡ ended Fails 0
three_only outcome p = only 3 5 (omega arith) outcome (ended Fails 0) p three_exhausted

pub three_unknown : ComesOut 3 4 (ended Fails 0) → ⊥
three_unknown p = stops_not_fails (ap (λ (o : SearchOutcome). o.ending) (only 3 4 (omega arith) (ended Stops 0) (ended Fails 0) three_stopped p))

pub three_not_taken : ComesOut 3 6 (ended Fails 0) → ⊥
three_not_taken p = omega (arith, ap (λ (o : SearchOutcome). o.left) (only 3 6 (omega arith) (ended Fails 1) (ended Fails 0) three_left_over p))

abbrev half_of_six : SearchOutcome
half_of_six = ended (Finds (x_is 3 ∷ [])) 0

pub six_found : ComesOut 6 5 half_of_six
six_found = inr (looks 6 (omega arith) (omega arith) (IsVisitOf (halved 6) 512 4) 4 half_of_six (
  ended Fails 3,
  inl (odd 6 0 (λ e. omega (arith, e)), refl),
  inl (
    refl,
    (
      ended Fails 2,
      inl (odd 6 1 (λ e. omega (arith, e)), refl),
      inl (
        refl,
        (
          ended Fails 1,
          inl (odd 6 2 (λ e. omega (arith, e)), refl),
          inl (
            refl,
            (half_of_six, inr (record { state = from_to 3 3; least = half_least 6 3 (omega arith) refl; looks = inl (no_flaw 6 3, refl) }), inr (finds_not_fails (x_is 3 ∷ []), refl)),
          ),
        ),
      ),
    ),
  ),
))

pub six_stopped : ComesOut 6 4 (ended Stops 0)
six_stopped = inr (looks 6 (omega arith) (omega arith) (IsVisitOf (halved 6) 512 3) 3 (ended Stops 0) (
  ended Fails 2,
  inl (odd 6 0 (λ e. omega (arith, e)), refl),
  inl (
    refl,
    (
      ended Fails 1,
      inl (odd 6 1 (λ e. omega (arith, e)), refl),
      inl (
        refl,
        (
          ended Fails 0,
          inl (odd 6 2 (λ e. omega (arith, e)), refl),
          inl (
            refl,
            (ended Stops 0, refl, inr (stops_not_fails, refl)),
          ),
        ),
      ),
    ),
  ),
))

pub six_only : (outcome : SearchOutcome) → ComesOut 6 5 outcome → outcome ≡ half_of_six
six_only outcome p = only 6 5 (omega arith) outcome half_of_six p six_found

pub six_not_exhausted : ComesOut 6 5 (ended Fails 0) → ⊥
six_not_exhausted p = finds_not_fails (x_is 3 ∷ []) (ap (λ (o : SearchOutcome). o.ending) (only 6 5 (omega arith) half_of_six (ended Fails 0) six_found p))
