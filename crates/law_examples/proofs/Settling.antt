-- The examples of settling, histories and conflicts.
use Rattle.std.proofs.Common.{◌≡◌, ℕ, ◌≤◌, List, [], ◌∷◌, ◌++◌, length, ℤ, pos, ◌≤ℤ◌, inl, inr, refl, sym, ap, ◌∙◌, subst, arith}
use Rattle.std.specs.Prelude.{Contains, ◌⊎◌}
use Rattle.std.specs.List.{AllZip}
use Rattle.std.proofs.lemmas.Int.{ints}
use Rattle.std.proofs.lemmas.List.{length-append}
use Rattle.domain_core.specs.Domain.{Domain, IsWithin, IsSingle, IsTested, Has, Range, Set}
use Rattle.eu_name.specs.declared.name.VarName.{VarName}
use Rattle.eu_name.specs.declared.name.VarName.TheVariants.{Global}
use Rattle.model_core.specs.declared.decision.Decision.{Decision}
use Rattle.model_core.specs.declared.decision.Decision.TheVariants.{Specify, Activate, Merge}
use Rattle.model_core.specs.declared.item.Item.{Item}
use Rattle.domain_core.specs.declared.kind.Kind.TheVariants.{Leq}
use Rattle.model_core.specs.declared.item.Term.TheVariants as term
use Rattle.model_core.specs.declared.model.Model.{Model}
use Rattle.model_core.specs.declared.model.RootKind.TheVariants.{Rejectable}
use Rattle.model_core.specs.declared.variable.Base.TheVariants.{Given}
use Rattle.model_core.specs.declared.variable.VarDecl.{VarDecl}
use Rattle.domain_core.specs.Consistency.{Ends, Admits}
use Rattle.domain_core.specs.Constraints.{HoldsOf, AgreeOn}
use Rattle.model_core.specs.Decided.{IsTaken}
use Rattle.model_core.specs.State.{State, Gives, IsBelow, GivesWithin}
use Rattle.model_core.specs.Tokens.{root_token}
use Rattle.model_core.specs.Variables.{HasBase, IsInBase}
use Rattle.plan_defs.specs.Claims.{Claim, IsOfProblem, at_most}
use Rattle.plan_defs.specs.Closure.{IsClosed, IsLeast, IsCollapsed}
use Rattle.plan_defs.specs.Consistency.{IsClaimConsistent, HasField}
use Rattle.plan_defs.specs.History.{IsHistory, TakesOut}
use Rattle.plan_defs.specs.Refusals.{Hinders, IsAdmissible}
use Rattle.model_core.specs.declared.refusal.Refusal.TheVariants.{Unknown, WrongType, Decided, NotInDomain, NotActive, NotSamePredicate, NotRejectable, SameToken, ActiveFull}
use Rattle.model_core.specs.declared.refusal.Refusal.{Refusal}
use Rattle.plan_defs.specs.Settling.{Settles, IsConflict}
use Rattle.plan_defs.specs.Terms.{Argument, Value, Variable, ArgumentCounts, BelongsTo}
use Rattle.eu_name.proofs.Ordered.{contains_head, contains_cases, contains_none}
use Rattle.law_examples.specs.Cases.{limited, activate_it, quantity_is}
use Rattle.law_examples.specs.Globals.{declared_x, problem_of, at_most_1, with_two, up_to}
use Rattle.law_examples.specs.Scenes.{root_of}
use Rattle.law_examples.specs.Worlds.{declared_y, free_two, low_two, x_is, y_is}
use Rattle.law_examples.proofs.Lists.{all_members, only_member, same_some}
use Rattle.law_examples.proofs.TwoVariables.{gives_first, one_of_two, two_closed, two_ordered}
use Rattle.law_examples.proofs.Tuples.{two_consistent}
use Rattle.law_examples.proofs.Pairs.{is_about, agreeing, only_claim}
use Rattle.law_examples.proofs.Variables.{IsGranted, no_decision, no_item, no_object, up_to_domain}

-- ---- least states of x and y

abbrev pub two_of : List Item → Model
two_of items = problem_of (declared_x ∷ declared_y ∷ []) items

pub range_within : (domain : Domain) (low high lo hi : ℤ) → IsWithin domain (Range low high) → ((v : ℤ) → Has domain v → Has (Range lo hi) v) → IsWithin domain (Range lo hi)
range_within (Range a b) low high lo hi within values = record { kind = tt; values = values }
range_within (Set members) low high lo hi within values = absurd within.kind

module _ (items : List Item) (decisions : List Decision) (other : State) (p : IsClosed (two_of items) decisions other) where
  pub x_within : (domain : Domain) → Gives other (Global 0) domain → IsWithin domain (up_to 2)
  x_within domain gives =
      let found = p.consistent.in_base (Global 0) domain gives in
      let variable : declared_x ≡ found.1.0 = same_some declared_x found.1.0 found.1.1 in
      subst (IsInBase domain) (found.1.2 ∙ ap (λ (v : VarDecl). v.base) (sym variable)) found.2

  pub y_within : (domain : Domain) → Gives other (Global 1) domain → IsWithin domain (up_to 2)
  y_within domain gives =
      let found = p.consistent.in_base (Global 1) domain gives in
      let variable : declared_y ≡ found.1.0 = same_some declared_y found.1.0 found.1.1 in
      subst (IsInBase domain) (found.1.2 ∙ ap (λ (v : VarDecl). v.base) (sym variable)) found.2

-- x up to this number, and y within its base
module _ (items : List Item) (decisions : List Decision) (number : ℕ) (few : number ≤ 2) where
  abbrev reached : State
  reached = with_two (up_to number) (up_to 2)

  reached_closed : ((decision : Decision) → Contains decisions decision → IsGranted (two_of items) reached decision)
      → ((claim : Claim) → IsOfProblem (two_of items) (IsTaken decisions) claim → IsClaimConsistent (two_of items) reached claim) → IsClosed (two_of items) decisions reached
  reached_closed granted consistent =
      two_closed [] [] declared_x declared_y items decisions (up_to number) (up_to 2) (up_to 2) (up_to 2) (no_object (declared_x ∷ declared_y ∷ []) items) refl refl
      (up_to_domain number (omega (arith, few))) (up_to_domain 2 (omega arith))
      (record { kind = tt; values = λ v has. (omega (arith, ints, has.0), omega (arith, ints, has.1, few)) })
      (record { kind = tt; values = λ v has. has }) granted consistent

  reached_least : IsClosed (two_of items) decisions reached
      → ((other : State) → IsClosed (two_of items) decisions other → (domain : Domain) → Gives other (Global 0) domain → (v : ℤ) → Has domain v → Has (up_to number) v)
      → IsLeast (two_of items) decisions reached
  reached_least closed x_is_less = record { closed = closed; below = below }
    where
      below : (other : State) → IsClosed (two_of items) decisions other → IsBelow reached other
      below other p = record {
        tokens = λ token c. absurd (contains_none token c);
        blocks = λ block c. absurd (contains_none block c);
        variables = λ name domain gives. elim (one_of_two (up_to number) (up_to 2) name domain gives) [
          | inl is ↦ (let found = (p.consistent.is_state.variables (Global 0)).0 (omega arith) in
              subst (λ n. GivesWithin other n domain) is.0 (subst (GivesWithin other (Global 0)) is.1
              (found.0, found.1, range_within found.0 (pos 0) (pos 2) (pos 0) (pos number) (x_within items decisions other p found.0 found.1) (x_is_less other p found.0 found.1))))
          | inr is ↦ (let found = (p.consistent.is_state.variables (Global 1)).0 (omega arith) in
              subst (λ n. GivesWithin other n domain) is.0 (subst (GivesWithin other (Global 1)) is.1 (found.0, found.1, y_within items decisions other p found.0 found.1)))
        ];
      }

pub free_least : IsLeast free_two [] (with_two (up_to 2) (up_to 2))
free_least =
    reached_least [] [] 2 (omega arith) (reached_closed [] [] 2 (omega arith) (no_decision free_two (with_two (up_to 2) (up_to 2))) (no_item free_two [] (with_two (up_to 2) (up_to 2)) refl))
    (λ other p domain gives. (x_within [] [] other p domain gives).values)

pub zero_least : IsLeast free_two (x_is 0 ∷ []) (with_two (up_to 0) (up_to 2))
zero_least =
    reached_least [] (x_is 0 ∷ []) 0 (omega arith)
    (reached_closed [] (x_is 0 ∷ []) 0 (omega arith) granted (no_item free_two (x_is 0 ∷ []) (with_two (up_to 0) (up_to 2)) refl))
    (λ other p domain gives v has. let same = (p.consistent.respected (x_is 0) (contains_head (x_is 0) []) domain gives).only v has in (omega (arith, ints, same), omega (arith, ints, same)))
  where
    is_zero : (domain : Domain) → Gives (with_two (up_to 0) (up_to 2)) (Global 0) domain → IsSingle domain (pos 0)
    is_zero domain gives = elim (one_of_two (up_to 0) (up_to 2) (Global 0) domain gives) [
      | inl is ↦ subst (λ d. IsSingle d (pos 0)) is.1 (record { has = (omega (arith, ints), omega (arith, ints)); only = λ v has. omega (arith, ints, has.0, has.1) })
      | inr is ↦ (let none = is.0 in absurd (cc))
    ]

    granted : (decision : Decision) → Contains (x_is 0 ∷ []) decision → IsGranted free_two (with_two (up_to 0) (up_to 2)) decision
    granted decision c = subst (IsGranted free_two (with_two (up_to 0) (up_to 2))) (only_member (x_is 0) decision c) is_zero

-- ---- admissible decisions

module _ (items : List Item) (decisions : List Decision) (state : State) (least : IsLeast (two_of items) decisions state) (number : ℕ) where
  admissible : (name : VarName) → (name ≡ Global 0) ⊎ (name ≡ Global 1) → number ≤ 2 → ((value : ℤ) → Contains decisions (Specify name value) → ⊥) → IsAdmissible (two_of items) decisions (Specify name (pos number))
  admissible name is few unset = record { state = state; least = least; free = free }
    where
      free : (reason : Refusal) → Hinders (two_of items) decisions state reason (Specify name (pos number)) → ⊥
      free Unknown h = elim is [
        | inl e ↦ h (subst (λ n. (domain : Domain) × Gives state n domain) (sym e) ((least.closed.consistent.is_state.variables (Global 0)).0 (omega arith)))
        | inr e ↦ h (subst (λ n. (domain : Domain) × Gives state n domain) (sym e) ((least.closed.consistent.is_state.variables (Global 1)).0 (omega arith)))
      ]
      free WrongType h = h
      free Decided h = unset h.0 h.1
      free NotInDomain h = elim is [
        | inl e ↦ h (up_to 2, subst (λ n. HasBase (two_of items) n (Given (up_to 2))) (sym e) (declared_x, refl, refl), (omega (arith, ints), omega (arith, ints, few)))
        | inr e ↦ h (up_to 2, subst (λ n. HasBase (two_of items) n (Given (up_to 2))) (sym e) (declared_y, refl, refl), (omega (arith, ints), omega (arith, ints, few)))
      ]
      free NotActive h = elim is [
        | inl e ↦ h (λ token belongs rejectable. absurd (subst (λ n. BelongsTo n token) e belongs))
        | inr e ↦ h (λ token belongs rejectable. absurd (subst (λ n. BelongsTo n token) e belongs))
      ]
      free NotSamePredicate h = h
      free NotRejectable h = h
      free SameToken h = h
      free ActiveFull h = h

pub x_admissible : (number : ℕ) → number ≤ 2 → IsAdmissible free_two [] (x_is number)
x_admissible number few = admissible [] [] (with_two (up_to 2) (up_to 2)) free_least number (Global 0) (inl refl) few (λ value c. contains_none (Specify (Global 0) value) c)

y_admissible : IsAdmissible free_two [] (y_is 1)
y_admissible = admissible [] [] (with_two (up_to 2) (up_to 2)) free_least 1 (Global 1) (inr refl) (omega arith) (λ value c. contains_none (Specify (Global 1) value) c)

pub y_next_admissible : IsAdmissible free_two (x_is 0 ∷ []) (y_is 1)
y_next_admissible =
    admissible [] (x_is 0 ∷ []) (with_two (up_to 0) (up_to 2)) zero_least 1 (Global 1) (inr refl) (omega arith) (λ value c. let same = only_member (x_is 0) (Specify (Global 1) value) c in cc)

second_inadmissible : IsAdmissible free_two (x_is 0 ∷ []) (x_is 1) → ⊥
second_inadmissible p = p.free Decided (pos 0, contains_head (x_is 0) [])

-- ---- settling

pub second_drops : Settles free_two (x_is 0 ∷ x_is 1 ∷ []) (x_is 0 ∷ [])
second_drops = inl (x_admissible 0 (omega arith), inr (second_inadmissible, refl))

-- so this alone is left
only_first : (settled : List Decision) → Settles free_two (x_is 0 ∷ x_is 1 ∷ []) settled → settled ≡ x_is 0 ∷ []
only_first settled (inl (first, inl (second, rest))) = absurd (second_inadmissible second)
only_first settled (inl (first, inr (none, rest))) = rest
only_first settled (inr (none, rest)) = absurd (none (x_admissible 0 (omega arith)))

abbrev value_of : List Decision → ℤ
value_of (Specify name value ∷ decisions) = value
value_of decisions = pos 7

pub second_is_not_kept : Settles free_two (x_is 0 ∷ x_is 1 ∷ []) (x_is 0 ∷ x_is 1 ∷ []) → ⊥
second_is_not_kept p = let lengths = ap length (only_first (x_is 0 ∷ x_is 1 ∷ []) p) in omega (arith, lengths)

pub first_stays : Settles free_two (x_is 0 ∷ x_is 1 ∷ []) (x_is 1 ∷ []) → ⊥
first_stays p = let values = ap value_of (only_first (x_is 1 ∷ []) p) in omega (arith, ints, values)

pub both_stay : Settles free_two (x_is 0 ∷ y_is 1 ∷ []) (x_is 0 ∷ y_is 1 ∷ [])
both_stay = inl (x_admissible 0 (omega arith), inl (y_next_admissible, refl))

pub other_stays : Settles free_two (x_is 0 ∷ y_is 1 ∷ []) (x_is 0 ∷ []) → ⊥
other_stays (inl (first, inl (second, rest))) = let lengths = ap length rest in omega (arith, lengths)
other_stays (inl (first, inr (none, rest))) = none y_next_admissible
other_stays (inr (none, rest)) = none (x_admissible 0 (omega arith))

-- ---- histories

pub history_with_reset : IsHistory free_two ((y_is 1 ∷ []) ∷ (x_is 0 ∷ y_is 1 ∷ []) ∷ (x_is 0 ∷ []) ∷ [] ∷ [])
history_with_reset = (
  inr (record { front = []; decision = x_is 0; back = y_is 1 ∷ []; parts = refl; settles = inl (y_admissible, refl) }),
  (inl (y_is 1, y_next_admissible, refl), (inl (x_is 0, x_admissible 0 (omega arith), refl), refl)),
)

pub no_two_at_once : IsHistory free_two ((x_is 0 ∷ y_is 1 ∷ []) ∷ [] ∷ []) → ⊥
no_two_at_once (inl accepts, bottom) = let lengths = ap length accepts.2 in omega (arith, lengths)
no_two_at_once (inr out, bottom) = omega (arith, ap length out.parts, length-append out.front (out.decision ∷ out.back))

pub begins_with_nothing : IsHistory free_two ((x_is 0 ∷ []) ∷ []) → ⊥
begins_with_nothing e = let lengths = ap length e in omega (arith, lengths)

-- ---- a reset

quantity_inadmissible : IsAdmissible (limited Rejectable) [] (quantity_is 1) → ⊥
quantity_inadmissible p = p.free NotActive (λ counts. untaken (counts (root_token 0) refl (refl, (root_of 0 Rejectable, refl, refl))))
  where
    untaken : IsTaken [] (root_token 0) → ⊥
    untaken (inl activation) = contains_none (Activate (root_token 0)) activation
    untaken (inr merge) = contains_none (Merge (root_token 0) merge.0) merge.1

pub quantity_drops : TakesOut (limited Rejectable) (activate_it ∷ quantity_is 1 ∷ []) []
quantity_drops = record { front = []; decision = activate_it; back = quantity_is 1 ∷ []; parts = refl; settles = inr (quantity_inadmissible, refl) }

pub quantity_is_not_kept : Settles (limited Rejectable) (quantity_is 1 ∷ []) (quantity_is 1 ∷ []) → ⊥
quantity_is_not_kept (inl (admissible, rest)) = quantity_inadmissible admissible
quantity_is_not_kept (inr (none, rest)) = let lengths = ap length rest in omega (arith, lengths)

-- ---- a conflict

abbrev x_argument : Argument
x_argument = Variable (Global 0)

-- x is at most 1 in each closed state
x_is_low : (decisions : List Decision) (state : State) → IsClosed low_two decisions state → (domain : Domain) → Gives state (Global 0) domain → (v : ℤ) → Has domain v → v ≤ℤ pos 1
x_is_low decisions state p domain gives v has = low domain (x_within (at_most_1 ∷ []) decisions state p domain gives) agree has
  where
    counts : (a : Argument) → Contains (x_argument ∷ Value (pos 1) ∷ []) a → ArgumentCounts low_two (IsTaken decisions) a
    counts a c = elim (contains_cases x_argument a (Value (pos 1) ∷ []) c) [
      | inl same ↦ subst (ArgumentCounts low_two (IsTaken decisions)) same (λ token belongs rejectable. absurd belongs)
      | inr later ↦ subst (ArgumentCounts low_two (IsTaken decisions)) (only_member (Value (pos 1)) a later) tt
    ]

    agree : AgreeOn (HasField low_two) Leq (domain ∷ Range (pos 1) (pos 1) ∷ [])
    agree =
        is_about low_two state p.consistent.is_state.order x_argument (Value (pos 1)) Leq domain (Range (pos 1) (pos 1)) gives refl
        (p.consistent.claims (at_most x_argument (Value (pos 1))) (inl (record {
          item = at_most_1;
          stands = contains_head at_most_1 [];
          says = record { is_kind = refl; means = (refl, (refl, tt)); counts = all_members (ArgumentCounts low_two (IsTaken decisions)) (x_argument ∷ Value (pos 1) ∷ []) counts };
        })))

    no_more : (hi : ℤ) (left right : List ℤ) → AllZip (Admits Ends) [] left → AllZip (Admits Ends) (Range (pos 1) (pos 1) ∷ []) right → HoldsOf Leq (left ++ hi ∷ right) → hi ≤ℤ pos 1
    no_more hi (w ∷ left) right before after h = absurd before
    no_more hi [] [] before after h = absurd after
    no_more hi [] (w ∷ more ∷ right) before after h = absurd after.1
    no_more hi [] (w ∷ []) before after h = omega (arith, ints, after.0.1, h)

    low : (d : Domain) → IsWithin d (up_to 2) → AgreeOn (HasField low_two) Leq (d ∷ Range (pos 1) (pos 1) ∷ []) → Has d v → v ≤ℤ pos 1
    low (Set members) within agree has = absurd within.kind
    low (Range lo hi) within agree has =
        let found = agree [] (Range lo hi) (Range (pos 1) (pos 1) ∷ []) hi refl (inr refl) in
        let less = no_more hi found.0 found.1 found.2 found.3 found.4 in
        omega (arith, ints, has.1, less)

two_collapses : (decisions : List Decision) → Contains decisions (x_is 2) → IsCollapsed low_two decisions
two_collapses decisions c state p =
    let found = (p.consistent.is_state.variables (Global 0)).0 (omega arith) in
    let single = p.consistent.respected (x_is 2) c found.0 found.1 in
    let low = x_is_low decisions state p found.0 found.1 (pos 2) single.has in
    omega (arith, ints, low)

low_least : IsLeast low_two [] (with_two (up_to 1) (up_to 2))
low_least =
    reached_least (at_most_1 ∷ []) [] 1 (omega arith)
    (reached_closed (at_most_1 ∷ []) [] 1 (omega arith) (no_decision low_two (with_two (up_to 1) (up_to 2))) consistent)
    (λ other p domain gives v has. let values = (x_within (at_most_1 ∷ []) [] other p domain gives).values v has in let low = x_is_low [] other p domain gives v has in (values.0, omega (arith, ints, low)))
  where
    below_1 : (v : ℤ) → IsTested (up_to 1) v → v ≤ℤ pos 1
    below_1 v (inl e) = omega (arith, ints, e)
    below_1 v (inr e) = omega (arith, ints, e)

    above_0 : (v : ℤ) → IsTested (Range (pos 1) (pos 1)) v → pos 0 ≤ℤ v
    above_0 v (inl e) = omega (arith, ints, e)
    above_0 v (inr e) = omega (arith, ints, e)

    consistent : (claim : Claim) → IsOfProblem low_two (IsTaken []) claim → IsClaimConsistent low_two (with_two (up_to 1) (up_to 2)) claim
    consistent claim p =
        let is = only_claim low_two (IsTaken []) Leq (term.Global 0) (term.Lit (pos 1)) x_argument (Value (pos 1)) refl (λ x e. e) (λ x e. e) claim p in
        subst (IsClaimConsistent low_two (with_two (up_to 1) (up_to 2))) (sym is.0)
        (agreeing low_two (with_two (up_to 1) (up_to 2)) (two_ordered (up_to 1) (up_to 2)) x_argument (Value (pos 1)) Leq (up_to 1) (Range (pos 1) (pos 1)) (gives_first (up_to 1) (up_to 2)) refl
        (two_consistent Ends (HoldsOf Leq) (up_to 1) (Range (pos 1) (pos 1))
        (λ v tested. ([], pos 1 ∷ [], tt, ((omega (arith, ints), omega (arith, ints)), tt), below_1 v tested))
        (λ v tested. (pos 0 ∷ [], [], ((omega (arith, ints), omega (arith, ints)), tt), tt, above_0 v tested))))

two_admissible : IsAdmissible low_two [] (x_is 2)
two_admissible = admissible (at_most_1 ∷ []) [] (with_two (up_to 1) (up_to 2)) low_least 2 (Global 0) (inl refl) (omega arith) (λ value c. contains_none (Specify (Global 0) value) c)

pub part_conflicts : IsConflict low_two (y_is 0 ∷ x_is 2 ∷ []) (x_is 2 ∷ [])
part_conflicts =
    inl (
      (x_is 2 ∷ [], inl (two_admissible, refl), two_collapses (x_is 2 ∷ []) (contains_head (x_is 2) [])),
      inr (([], refl, (with_two (up_to 1) (up_to 2), low_least)), inl (two_admissible, refl)),
    )

-- and there is no other
only_conflict : (conflict : List Decision) → IsConflict low_two (y_is 0 ∷ x_is 2 ∷ []) conflict → conflict ≡ x_is 2 ∷ []
only_conflict conflict (inl (collapse, inl ((settled, settles, collapsed), rest))) =
    absurd (collapsed (with_two (up_to 1) (up_to 2)) (subst (λ list. IsClosed low_two list (with_two (up_to 1) (up_to 2))) (sym settles) low_least.closed))
only_conflict conflict (inl (collapse, inr (least, inl (admissible, rest)))) = rest
only_conflict conflict (inl (collapse, inr (least, inr (none, rest)))) = absurd (none two_admissible)
only_conflict conflict (inr ((settled, inl (admissible, is), (state, least)), rest)) =
    absurd (two_collapses settled (subst (λ list. Contains list (x_is 2)) (sym is) (contains_head (x_is 2) [])) state least.closed)
only_conflict conflict (inr ((settled, inr (none, is), (state, least)), rest)) = absurd (none two_admissible)

pub whole_is_no_conflict : IsConflict low_two (y_is 0 ∷ x_is 2 ∷ []) (y_is 0 ∷ x_is 2 ∷ []) → ⊥
whole_is_no_conflict p = let lengths = ap length (only_conflict (y_is 0 ∷ x_is 2 ∷ []) p) in omega (arith, lengths)

pub nothing_is_no_conflict : IsConflict low_two (y_is 0 ∷ x_is 2 ∷ []) [] → ⊥
nothing_is_no_conflict p = let lengths = ap length (only_conflict [] p) in omega (arith, lengths)
