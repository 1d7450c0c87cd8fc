-- A program has facts: what its typedefs mean is found level by level, and settles.
use Rattle.std.proofs.Common.{◌≡◌, ℕ, zero, suc, ◌+◌, ◌<◌, inl, inr, Bool, true, false, List, [], ◌∷◌, length, refl, sym, ◌∙◌, ap, subst, arith}
use Rattle.std.specs.Prelude.{Option, Some, None, slice_get, if◌then◌else◌}
use Rattle.std.specs.Option.{option_and_then}
use Rattle.std.proofs.lemmas.Bool.{cases_lt}
use Rattle.std.proofs.lemmas.Option.{slice_get_past, slice_get_within}
use Rattle.eu_forest.specs.declared.walk.Mark.{Mark}
use Rattle.eu_forest.specs.Lines.{IsLineageOf, StandsUnder, rootedness_in}
use Rattle.nddl_ast.specs.declared.declaration.Decl.{Decl}
use Rattle.nddl_ast.specs.declared.expression.Type as types
use Rattle.nddl_symbols.specs.declared.declared.Declared.{Declared}
use Rattle.nddl_symbols.specs.declared.scope.Meaning.{Meaning}
use Rattle.nddl_symbols.specs.declared.scope.Meaning.TheVariants as meanings
use Rattle.nddl_typeexpr.specs.declared.kind.TypeMeaning.{TypeMeaning}
use Rattle.nddl_hierarchy.specs.Facts.{Facts}
use Rattle.nddl_hierarchy.specs.Lines.{is_rooted, parents_of}
use Rattle.nddl_hierarchy.proofs.Above.{parents_are_there}
use Rattle.nddl_declarations.specs.Known.{AreFacts, declared_type, fine_meaning, known_meaning}
use Rattle.nddl_declarations.proofs.Depends.{AgreesAt, fine_same, named_by, with_known}
use Rattle.nddl_declarations.proofs.Settled.{typedef_under}
use Rattle.nddl_laws.proofs.Knowledge.{rooted_is}
use Rattle.nddl_verdicts.specs.Verdicts.{ProgramsHaveFacts}
use Rattle.nddl_verdicts.proofs.Lineages.{some_lineage}

-- ---- one level after another

-- what so many names mean, of which the first has this number, by what is known
abbrev meanings_from : Facts → ℕ → List Declared → List (Option TypeMeaning)
meanings_from facts number [] = []
meanings_from facts number (declared ∷ more) = known_meaning facts number ∷ meanings_from facts (number + 1) more

as_many : (facts : Facts) (number : ℕ) (names : List Declared) → length (meanings_from facts number names) ≡ length names
as_many facts number [] = refl
as_many facts number (declared ∷ more) = ap suc (as_many facts (number + 1) more)

meaning_at : (facts : Facts) (number : ℕ) (names : List Declared) (k : ℕ) → k < length names
    → slice_get (meanings_from facts number names) k ≡ Some (known_meaning facts (number + k))
meaning_at facts number [] k within = absurd (omega (arith, within))
meaning_at facts number (declared ∷ more) zero within =
    let e : number ≡ number + 0 = omega arith in ap (λ n. Some (known_meaning facts n)) e
meaning_at facts number (declared ∷ more) (suc k) within =
    let e : number + 1 + k ≡ number + suc k = omega arith in
    meaning_at facts (number + 1) more k (omega (arith, within)) ∙ ap (λ n. Some (known_meaning facts n)) e

-- what is known after so many rounds
abbrev known_after : Facts → ℕ → List (Option TypeMeaning)
known_after facts zero = []
known_after facts (suc level) = meanings_from (with_known facts (known_after facts level)) 0 facts.names

module _ (facts : Facts) (order : List ℕ) (are : facts.parents ≡ parents_of facts.names facts.program) (lineage : IsLineageOf facts.parents facts.marked order) where
  at_level : (level entry : ℕ) → entry < length facts.names
      → slice_get (known_after facts (suc level)) entry ≡ Some (known_meaning (with_known facts (known_after facts level)) entry)
  at_level level entry within =
      let e : 0 + entry ≡ entry = omega arith in
      let now : Facts = with_known facts (known_after facts level) in
      meaning_at now 0 facts.names entry within ∙ ap (λ n. Some (known_meaning now n)) e

  -- what an entry of this rootedness and this type means
  abbrev meaning_by : Bool → Option types.Type → List (Option TypeMeaning) → Option TypeMeaning
  meaning_by rooted type list = if rooted then option_and_then (fine_meaning (with_known facts list)) type else None

  -- the same is known of an entry after two rounds where it means the same before them
  same_here : (one other entry : ℕ) → entry < length facts.names → (rooted : Bool) (type : Option types.Type)
      → is_rooted (rootedness_in facts.marked entry) ≡ rooted → declared_type facts.names facts.program entry ≡ type
      → meaning_by rooted type (known_after facts one) ≡ meaning_by rooted type (known_after facts other)
      → slice_get (known_after facts (suc one)) entry ≡ slice_get (known_after facts (suc other)) entry
  same_here one other entry within rooted type is typed same =
      at_level one entry within
      ∙ (ap (λ m. Some m) ((λ i. meaning_by (is i) (typed i) (known_after facts one)) ∙ (same ∙ sym (λ i. meaning_by (is i) (typed i) (known_after facts other))))
      ∙ sym (at_level other entry within))

  -- after more rounds than its place in the order nothing more becomes known of an entry
  abbrev IsSettledTo : ℕ → Type 0
  IsSettledTo count =
      (place entry : ℕ) → place < count → slice_get order place ≡ Some entry → entry < length facts.names
      → (one other : ℕ) → count < one → count < other → slice_get (known_after facts one) entry ≡ slice_get (known_after facts other) entry

  module _ (count : ℕ) (before : IsSettledTo count) (place entry : ℕ) (less : place < suc count) (at : slice_get order place ≡ Some entry)
      (one other : ℕ) (past : count < suc one) (later : count < suc other) (type : types.Type)
      (typed : declared_type facts.names facts.program entry ≡ Some type) where
    parent_same : (parent : ℕ) → named_by facts.names type.base ≡ Some (meanings.Entry parent) → parent < length facts.names → (o : Option types.Type)
        → declared_type facts.names facts.program parent ≡ o
        → slice_get (known_after facts (suc one)) parent ≡ slice_get (known_after facts (suc other)) parent
    parent_same parent named within None is = same_here one other parent within (is_rooted (rootedness_in facts.marked parent)) None refl is (none_same (is_rooted (rootedness_in facts.marked parent)))
      where
        none_same : (rooted : Bool) → meaning_by rooted None (known_after facts one) ≡ meaning_by rooted None (known_after facts other)
        none_same true = refl
        none_same false = refl
    parent_same parent named within (Some declared) is =
        let under = typedef_under facts.names facts.program entry parent type declared typed is named in
        let P : List (Option ℕ) → Type 0 = λ p. StandsUnder p entry parent in
        let found = lineage.ordered place entry parent at (subst P (sym are) under) in
        let earlier : found.0 < count = omega (arith, found.1, less) in
        before found.0 parent earlier found.2 within (suc one) (suc other) past later

    agree : (named : Option Meaning) → named_by facts.names type.base ≡ named
        → AgreesAt (known_after facts (suc one)) (known_after facts (suc other)) named
    agree None named = tt
    agree (Some (meanings.BuiltIn number)) named = tt
    agree (Some (meanings.Entry parent)) named = elim (cases_lt parent (length facts.names)) [
      | inl within ↦ parent_same parent named within (declared_type facts.names facts.program parent) refl
      | inr far ↦ (
          let first = as_many (with_known facts (known_after facts one)) 0 facts.names in
          let second = as_many (with_known facts (known_after facts other)) 0 facts.names in
          slice_get_past (known_after facts (suc one)) parent (omega (arith, first, far))
          ∙ sym (slice_get_past (known_after facts (suc other)) parent (omega (arith, second, far)))
          )
    ]

  same_meaning : (count : ℕ) → IsSettledTo count → (place entry : ℕ) → place < suc count → slice_get order place ≡ Some entry
      → (one other : ℕ) → count < suc one → count < suc other → (rooted : Bool) (type : Option types.Type) → declared_type facts.names facts.program entry ≡ type
      → meaning_by rooted type (known_after facts (suc one)) ≡ meaning_by rooted type (known_after facts (suc other))
  same_meaning count before place entry less at one other past later false type is = refl
  same_meaning count before place entry less at one other past later true None is = refl
  same_meaning count before place entry less at one other past later true (Some type) is =
      fine_same facts (known_after facts (suc one)) (known_after facts (suc other)) type
      (agree count before place entry less at one other past later type is (named_by facts.names type.base) refl)

  settled_more : (count : ℕ) → IsSettledTo count → IsSettledTo (suc count)
  settled_more count before place entry less at within zero other past later = absurd (omega (arith, past))
  settled_more count before place entry less at within (suc zero) other past later = absurd (omega (arith, past))
  settled_more count before place entry less at within (suc (suc one)) zero past later = absurd (omega (arith, later))
  settled_more count before place entry less at within (suc (suc one)) (suc zero) past later = absurd (omega (arith, later))
  settled_more count before place entry less at within (suc (suc one)) (suc (suc other)) past later =
      let rooted = is_rooted (rootedness_in facts.marked entry) in
      let type = declared_type facts.names facts.program entry in
      same_here (suc one) (suc other) entry within rooted type refl refl
      (same_meaning count before place entry less at one other (omega (arith, past)) (omega (arith, later)) rooted type refl)

  settled_to : (count : ℕ) → IsSettledTo count
  settled_to zero = λ place entry less at within one other past later. absurd (omega (arith, less))
  settled_to (suc count) = settled_more count (settled_to count)

  -- ---- what is known at last

  abbrev last_known : List (Option TypeMeaning)
  last_known = known_after facts (suc (suc (length order)))

  -- a name that leads to no root means nothing
  not_rooted : (list : List (Option TypeMeaning)) (entry : ℕ) → is_rooted (rootedness_in facts.marked entry) ≡ false → known_meaning (with_known facts list) entry ≡ None
  not_rooted list entry is = ap (λ (b : Bool). meaning_by b (declared_type facts.names facts.program entry) list) is

  last_means : (entry : ℕ) → entry < length facts.names → (rooted : Bool) → is_rooted (rootedness_in facts.marked entry) ≡ rooted
      → slice_get last_known entry ≡ Some (known_meaning (with_known facts last_known) entry)
  last_means entry within true is =
      let found = lineage.whole entry (rooted_is (rootedness_in facts.marked entry) is) in
      let inside : found.0 < length order = slice_get_within order found.0 entry found.1 in
      settled_to (length order) found.0 entry inside found.1 within (suc (suc (length order))) (suc (suc (suc (length order)))) (omega arith) (omega arith)
      ∙ at_level (suc (suc (length order))) entry within
  last_means entry within false is =
      at_level (suc (length order)) entry within
      ∙ ap (λ m. Some m) (not_rooted (known_after facts (suc (length order))) entry is ∙ sym (not_rooted last_known entry is))

  last_long : length last_known ≡ length facts.names
  last_long = as_many (with_known facts (known_after facts (suc (length order)))) 0 facts.names

-- ---- facts

-- what the program has but what its typedefs mean
abbrev bare_facts : List Declared → List Decl → List Mark → Facts
bare_facts names program marked = record { names = names; program = program; parents = parents_of names program; marked = marked; known = [] }

facts_by : (names : List Declared) (program : List Decl) (marked : List Mark) (order : List ℕ) → IsLineageOf (parents_of names program) marked order
    → (facts : Facts) × AreFacts names program facts
facts_by names program marked order lineage =
    let bare : Facts = bare_facts names program marked in
    let known : List (Option TypeMeaning) = known_after bare (suc (suc (length order))) in (
      with_known bare known,
      record {
        is_names = refl;
        is_program = refl;
        is_parents = refl;
        order = order;
        lineage = lineage;
        whole = last_long bare order refl lineage;
        means = λ entry within. last_means bare order refl lineage entry within (is_rooted (rootedness_in marked entry)) refl;
      },
    )

-- a program has facts
pub programs_have_facts : ProgramsHaveFacts
programs_have_facts names program none =
    some_lineage (parents_of names program) (parents_are_there names program) (λ found.
    none (facts_by names program found.0 found.1.0 found.1.1))
