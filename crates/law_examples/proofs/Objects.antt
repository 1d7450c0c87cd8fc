-- The examples of variables that are objects, and of their fields.
use Rattle.std.proofs.Common.{◌≡◌, ℕ, suc, zero, List, [], ◌∷◌, ◌++◌, Some, ℤ, pos, inl, inr, refl, sym, ap, ◌∙◌, subst, arith}
use Rattle.std.specs.Prelude.{Contains, ◌⊎◌, ◌≤◌, slice_get}
use Rattle.std.specs.List.{AllZip}
use Rattle.std.proofs.lemmas.Int.{ints}
use Rattle.domain_core.specs.Domain.{Domain, IsDomain, IsTested, IsWithin, Has}
use Rattle.domain_core.proofs.Words.{IsWithin-refl}
use Rattle.eu_name.specs.declared.name.VarName.TheVariants.{Global}
use Rattle.model_core.specs.declared.class.Object.{Object}
use Rattle.model_core.specs.declared.class.ObjectKind.TheVariants as kind
use Rattle.domain_core.specs.declared.kind.Kind.TheVariants.{Field}
use Rattle.model_core.specs.declared.item.Term.TheVariants as term
use Rattle.model_core.specs.declared.variable.Base.TheVariants.{Given, Void}
use Rattle.model_core.specs.declared.variable.VarDecl.{VarDecl}
use Rattle.domain_core.specs.Consistency.{Values, Admits, IsSupported}
use Rattle.domain_core.specs.Constraints.{Holds}
use Rattle.model_core.specs.Decided.{IsTaken}
use Rattle.model_core.specs.Kinds.{IsObject}
use Rattle.model_core.specs.State.{VarDomain}
use Rattle.model_core.specs.Variables.{HasBase, IsInBase}
use Rattle.plan_defs.specs.Claims.{Claim}
use Rattle.plan_defs.specs.Closure.{IsClosed, IsCollapsed}
use Rattle.plan_defs.specs.Consistency.{IsClaimConsistent, HasField}
use Rattle.plan_defs.specs.Terms.{Argument, Variable, ArgumentCounts}
use Rattle.eu_name.proofs.Ordered.{contains_head, contains_later, contains_cases, ordered_one}
use Rattle.law_examples.specs.Globals.{with_x, with_two, up_to}
use Rattle.law_examples.specs.Scenes.{the_object, both_objects}
use Rattle.law_examples.specs.Worlds.{declared_c, declared_v, class_with, object_with, no_choice, one_choice, fielded, field_is, between}
use Rattle.law_examples.proofs.Domains.{object_domain, both_domain, object_within}
use Rattle.law_examples.proofs.Lists.{all_members, only_member, same_some}
use Rattle.law_examples.proofs.Pairs.{is_about, agreeing, only_claim}
use Rattle.law_examples.proofs.Tuples.{two_consistent}
use Rattle.law_examples.proofs.TwoVariables.{gives_first, gives_second, two_ordered, two_closed}
use Rattle.law_examples.proofs.Variables.{by_name, closed, no_decision, no_item}

-- ---- a void base

pub void_collapses : IsCollapsed no_choice []
void_collapses state p =
    let given = (p.consistent.is_state.variables (Global 0)).0 (omega arith) in
    let found = p.consistent.in_base (Global 0) given.0 given.1 in
    let variable : declared_c Void ≡ found.1.0 = same_some (declared_c Void) found.1.0 found.1.1 in
    let base : found.0 ≡ Void = found.1.2 ∙ ap (λ (v : VarDecl). v.base) (sym variable) in
    subst (IsInBase given.0) base found.2

one_is_plain : (value : ℤ) (object : Object) → IsObject one_choice value object → object.kind ≡ kind.Plain
one_is_plain value object (zero, is, at) = ap (λ (o : Object). o.kind) (sym (same_some _ object at))
one_is_plain value object (suc number, is, at) = absurd (cc)

pub given_closed : IsClosed one_choice [] (with_x the_object)
given_closed =
    closed (class_with [] ∷ []) (object_with _ [] ∷ []) (declared_c (Given the_object) ∷ []) [] [] (with_x the_object).entries one_is_plain
    (ordered_one by_name (record { name = Global 0; domain = the_object }))
    (λ number within. let is : 0 ≡ number = omega (arith, within) in (the_object, subst (λ n. Contains (with_x the_object).entries (record { name = Global n; domain = the_object })) is (contains_head _ [])))
    (λ name domain gives. let same = only_member _ _ gives in (0, sym (ap (λ (e : VarDomain). e.name) same), omega arith))
    (all_members (λ (entry : VarDomain). IsDomain entry.domain) (with_x the_object).entries (λ entry c. subst (λ (e : VarDomain). IsDomain e.domain) (only_member (record { name = Global 0; domain = the_object }) entry c) object_domain))
    (λ name domain gives. let same = only_member (record { name = Global 0; domain = the_object }) (record { name = name; domain = domain }) gives in (
      Given the_object,
      subst (λ (e : VarDomain). HasBase one_choice e.name (Given the_object)) same (declared_c (Given the_object), refl, refl),
      subst (λ (e : VarDomain). IsWithin e.domain the_object) same (IsWithin-refl the_object),
    ))
    (no_decision one_choice (with_x the_object)) (no_item one_choice [] (with_x the_object) refl)

-- ---- a field

fielded_plain : (value : ℤ) (object : Object) → IsObject fielded value object → object.kind ≡ kind.Plain
fielded_plain value object (zero, is, at) = ap (λ (o : Object). o.kind) (sym (same_some _ object at))
fielded_plain value object (suc zero, is, at) = ap (λ (o : Object). o.kind) (sym (same_some _ object at))
fielded_plain value object (suc (suc number), is, at) = absurd (cc)

-- the first object has 1 in its field, and the second has 2
has_one : HasField fielded 0 (pos 0) (pos 1)
has_one = (_, (0, refl, refl), refl)

has_two : HasField fielded 0 (pos 1) (pos 2)
has_two = (_, (1, refl, refl), refl)

content_is : (value content : ℤ) → HasField fielded 0 value content → ((value ≡ pos 0) × (content ≡ pos 1)) ⊎ ((value ≡ pos 1) × (content ≡ pos 2))
content_is value content (object, (zero, is, at), has) =
    let fields = ap (λ (o : Object). o.fields) (same_some _ object at) in
    inl (is, sym (same_some (pos 1) content (subst (λ list. slice_get list 0 ≡ Some content) (sym fields) has)))
content_is value content (object, (suc zero, is, at), has) =
    let fields = ap (λ (o : Object). o.fields) (same_some _ object at) in
    inr (is, sym (same_some (pos 2) content (subst (λ list. slice_get list 0 ≡ Some content) (sym fields) has)))
content_is value content (object, (suc (suc number), is, at), has) = absurd (cc)

abbrev c_argument : Argument
c_argument = Variable (Global 0)

abbrev v_argument : Argument
v_argument = Variable (Global 1)

abbrev the_claim : Claim
the_claim = record { kind = Field 0; arguments = c_argument ∷ v_argument ∷ [] }

abbrev holds : List ℤ → Type 0
holds = Holds (HasField fielded) (Field 0)

module _ (one other : Domain) where
  fielded_closed : IsDomain one → IsDomain other → IsWithin one both_objects → IsWithin other (up_to 9)
      → ((v : ℤ) → IsTested one v → IsSupported Values holds [] v (other ∷ [])) → ((v : ℤ) → IsTested other v → IsSupported Values holds (one ∷ []) v []) → IsClosed fielded [] (with_two one other)
  fielded_closed ok ok' within within' first second =
      two_closed _ _ (declared_c (Given both_objects)) declared_v (field_is ∷ []) [] one other both_objects (up_to 9) fielded_plain refl refl ok ok' within within' (no_decision fielded (with_two one other))
      (λ claim p.
      let is = only_claim fielded (IsTaken []) (Field 0) (term.Global 0) (term.Global 1) c_argument v_argument refl (λ x e. e) (λ x e. e) claim p in
      subst (IsClaimConsistent fielded (with_two one other)) (sym is.0)
      (agreeing fielded (with_two one other) (two_ordered one other) c_argument v_argument (Field 0) one other (gives_first one other) (gives_second one other)
      (two_consistent Values holds one other first second)))

  -- each tested value of either is part of a pair of an object and what it has in the field
  fielded_agree : IsClosed fielded [] (with_two one other) → ((v : ℤ) → IsTested one v → IsSupported Values holds [] v (other ∷ [])) × ((v : ℤ) → IsTested other v → IsSupported Values holds (one ∷ []) v [])
  fielded_agree p =
      let agree = is_about fielded (with_two one other) (two_ordered one other) c_argument v_argument (Field 0) one other (gives_first one other) (gives_second one other)
      (p.consistent.claims the_claim (inl (record {
        item = field_is;
        stands = contains_head field_is [];
        says = record { is_kind = refl; means = (refl, (refl, tt)); counts = all_members (ArgumentCounts fielded (IsTaken [])) (c_argument ∷ v_argument ∷ []) counts };
      }))) in
      (λ v tested. agree [] one (other ∷ []) v refl tested, λ v tested. agree (one ∷ []) other [] v refl tested)
    where
      counts : (a : Argument) → Contains (c_argument ∷ v_argument ∷ []) a → ArgumentCounts fielded (IsTaken []) a
      counts a c = elim (contains_cases c_argument a (v_argument ∷ []) c) [
        | inl same ↦ subst (ArgumentCounts fielded (IsTaken [])) same (λ token belongs rejectable. absurd belongs)
        | inr later ↦ subst (ArgumentCounts fielded (IsTaken [])) (only_member v_argument a later) (λ token belongs rejectable. absurd belongs)
      ]

-- what supports a value of the second, and one of the first
of_second : (one : Domain) (v : ℤ) → IsSupported Values holds (one ∷ []) v [] → (w : ℤ) × Has one w × HasField fielded 0 w v
of_second one v (left, right, before, after, h) = at left right before after h
  where
    at : (left right : List ℤ) → AllZip (Admits Values) (one ∷ []) left → AllZip (Admits Values) [] right → holds (left ++ v ∷ right) → (w : ℤ) × Has one w × HasField fielded 0 w v
    at [] right before after h = absurd before
    at (w ∷ more ∷ left) right before after h = absurd before.1
    at (w ∷ []) (x ∷ right) before after h = absurd after
    at (w ∷ []) [] before after h = (w, before.0, h)

of_first : (other : Domain) (v : ℤ) → IsSupported Values holds [] v (other ∷ []) → (w : ℤ) × Has other w × HasField fielded 0 v w
of_first other v (left, right, before, after, h) = at left right before after h
  where
    at : (left right : List ℤ) → AllZip (Admits Values) [] left → AllZip (Admits Values) (other ∷ []) right → holds (left ++ v ∷ right) → (w : ℤ) × Has other w × HasField fielded 0 v w
    at (x ∷ left) right before after h = absurd before
    at [] [] before after h = absurd after
    at [] (w ∷ more ∷ right) before after h = absurd after.1
    at [] (w ∷ []) before after h = (w, after.0, h)

small_domain : (low high : ℕ) → low ≤ high → high ≤ 9 → IsDomain (between low high)
small_domain low high less few = ((omega (arith, ints), omega (arith, ints, less, few)), (omega (arith, ints), omega (arith, ints, few)), omega (arith, ints, less))

small_within : (low high : ℕ) → high ≤ 9 → IsWithin (between low high) (up_to 9)
small_within low high few = record { kind = tt; values = λ v has. (omega (arith, ints, has.0), omega (arith, ints, has.1, few)) }

pub both_closed : IsClosed fielded [] (with_two both_objects (between 1 2))
both_closed =
    fielded_closed both_objects (between 1 2) both_domain (small_domain 1 2 (omega arith) (omega arith)) (IsWithin-refl both_objects) (small_within 1 2 (omega arith)) first second
  where
    first : (v : ℤ) → IsTested both_objects v → IsSupported Values holds [] v (between 1 2 ∷ [])
    first v c = elim (contains_cases (pos 0) v (pos 1 ∷ []) c) [
      | inl same ↦ ([], pos 1 ∷ [], tt, ((omega (arith, ints), omega (arith, ints)), tt), subst (λ w. HasField fielded 0 w (pos 1)) same has_one)
      | inr later ↦ ([], pos 2 ∷ [], tt, ((omega (arith, ints), omega (arith, ints)), tt), subst (λ w. HasField fielded 0 w (pos 2)) (only_member (pos 1) v later) has_two)
    ]

    second : (v : ℤ) → IsTested (between 1 2) v → IsSupported Values holds (both_objects ∷ []) v []
    second v (inl e) = (pos 0 ∷ [], [], (contains_head (pos 0) (pos 1 ∷ []), tt), tt, subst (λ w. HasField fielded 0 (pos 0) w) (sym e) has_one)
    second v (inr e) = (pos 1 ∷ [], [], (contains_later (pos 0) (pos 1) (pos 1 ∷ []) (contains_head (pos 1) []), tt), tt, subst (λ w. HasField fielded 0 (pos 1) w) (sym e) has_two)

pub first_closed : IsClosed fielded [] (with_two the_object (between 1 1))
first_closed =
    fielded_closed the_object (between 1 1) object_domain (small_domain 1 1 (omega arith) (omega arith))
    object_within (small_within 1 1 (omega arith))
    (λ v c. ([], pos 1 ∷ [], tt, ((omega (arith, ints), omega (arith, ints)), tt), subst (λ w. HasField fielded 0 w (pos 1)) (only_member (pos 0) v c) has_one))
    second
  where
    second : (v : ℤ) → IsTested (between 1 1) v → IsSupported Values holds (the_object ∷ []) v []
    second v (inl e) = (pos 0 ∷ [], [], (contains_head (pos 0) [], tt), tt, subst (λ w. HasField fielded 0 (pos 0) w) (sym e) has_one)
    second v (inr e) = (pos 0 ∷ [], [], (contains_head (pos 0) [], tt), tt, subst (λ w. HasField fielded 0 (pos 0) w) (sym e) has_one)

pub three_is_in_no_field : IsClosed fielded [] (with_two both_objects (between 1 3)) → ⊥
three_is_in_no_field p =
    let found = of_second both_objects (pos 3) ((fielded_agree both_objects (between 1 3) p).1 (pos 3) (inr refl)) in
    elim (content_is found.0 (pos 3) found.2) [ inl is ↦ (let e = is.1 in omega (arith, ints, e)) | inr is ↦ (let e = is.1 in omega (arith, ints, e)) ]

pub second_has_no_one : IsClosed fielded [] (with_two both_objects (between 1 1)) → ⊥
second_has_no_one p =
    let found = of_first (between 1 1) (pos 1) ((fielded_agree both_objects (between 1 1) p).0 (pos 1) (contains_later (pos 0) (pos 1) (pos 1 ∷ []) (contains_head (pos 1) []))) in
    elim (content_is (pos 1) found.0 found.2) [ inl is ↦ (let e = is.0 in omega (arith, ints, e)) | inr is ↦ (let e = is.1 in let has = found.1.1 in omega (arith, ints, e, has)) ]

pub first_has_no_two : IsClosed fielded [] (with_two the_object (between 2 2)) → ⊥
first_has_no_two p =
    let found = of_second the_object (pos 2) ((fielded_agree the_object (between 2 2) p).1 (pos 2) (inl refl)) in
    let zero_is = only_member (pos 0) found.0 found.1 in
    elim (content_is found.0 (pos 2) found.2) [ inl is ↦ (let e = is.1 in omega (arith, ints, e)) | inr is ↦ (let e = is.0 in omega (arith, ints, zero_is, e)) ]
