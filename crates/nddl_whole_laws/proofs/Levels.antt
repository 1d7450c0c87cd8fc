-- The numbers of resources keep their bounds.
use Rattle.std.proofs.Common.{◌≡◌, ℕ, zero, suc, ◌==◌, Bool, true, false, ◌||◌, List, [], ◌∷◌, ℤ, pos, refl, sym, ◌∙◌, ap, subst, arith}
use Rattle.std.specs.Prelude.{◌≤ℤ◌, Option, Some, All, codes, int_lt, if◌then◌else◌}
use Rattle.std.specs.List.{list_any}
use Rattle.std.proofs.lemmas.Bool.Decides.{Decides-eqb}
use Rattle.std.proofs.lemmas.Int.{ints}
use Rattle.std.proofs.lemmas.Option.{same_Some}
use Rattle.domain_core.specs.Domain.{IsValue}
use Rattle.eu_forest.specs.Ancestors.{ancestry}
use Rattle.model_core.specs.declared.class.ObjectKind.TheVariants as object_kinds
use Rattle.model_core.specs.Lawful.{IsLawfulKind}
use Rattle.nddl_symbols.specs.declared.scope.Meaning.{Meaning}
use Rattle.nddl_symbols.specs.declared.scope.Meaning.TheVariants as meanings
use Rattle.nddl_typeexpr.specs.declared.kind.TypeKind.{TypeKind}
use Rattle.nddl_typeexpr.specs.declared.kind.TypeKind.TheVariants as kinds
use Rattle.nddl_hierarchy.specs.Facts.{Facts}
use Rattle.nddl_resolve.specs.declared.denoted.Denoted.TheVariants as denoted
use Rattle.nddl_resolve.specs.Fields.{class_field, is_builtin_field, number_field}
use Rattle.nddl_constructors.specs.Wants.{builtin_along, builtin_or}
use Rattle.nddl_construction.specs.declared.made.Datum.{Datum}
use Rattle.nddl_construction.specs.declared.made.Datum.TheVariants as datums
use Rattle.nddl_construction.specs.declared.made.FieldValue.{FieldValue}
use Rattle.nddl_construction.specs.declared.made.MadeObject.{MadeObject}
use Rattle.nddl_construction.specs.Classes.{behind_all, line_up}
use Rattle.nddl_construction.specs.Fields.{field_datum}
use Rattle.nddl_objects.specs.Finished.{datum_below, is_class_out, is_out_of_bounds}
use Rattle.nddl_objects.specs.Modelled.{builtin_of, datum_value, field_value, object_kind}
use Rattle.nddl_model_laws.proofs.Fielded.{over_builtin, over_class}
use Rattle.nddl_model_laws.proofs.Lined.{Lined, stands_over, stands_top, stands_under}
use Rattle.nddl_model_laws.proofs.Typing.{IsDatum, IsTypedField, typed_datum}
use Rattle.nddl_whole_laws.proofs.Leading.{IsWhole}

-- ---- fields of built-in classes

number_known : (word : List ℕ) (number : ℕ) → is_builtin_field word number ≡ true → number_field true (is_builtin_field word number) ≡ Some (denoted.Value kinds.Int true)
number_known word number has = ap (number_field true) has

module _ (facts : Facts) where
  -- a class has the fields of the built-in class at the end of its line
  given_known : (levels entry : ℕ) → Lined facts levels entry → (word : List ℕ)
      → is_builtin_field word (builtin_along facts.names facts.program (ancestry facts.parents entry)) ≡ true
      → class_field facts true word (meanings.Entry entry) ≡ Some (denoted.Value kinds.Int true)
  given_known zero entry line word has = absurd line
  given_known (suc levels) entry (stands_top one up line items) word has =
      let number : builtin_along facts.names facts.program (ancestry facts.parents entry) ≡ 0 =
      ap (builtin_along facts.names facts.program) line ∙ ap (builtin_or 0) up in
      let never : false ≡ true = sym (ap (is_builtin_field word) number) ∙ has in
      absurd (cc)
  given_known (suc levels) entry (stands_over number few one up line items apart) word has =
      let is : builtin_along facts.names facts.program (ancestry facts.parents entry) ≡ number =
      ap (builtin_along facts.names facts.program) line ∙ ap (builtin_or 0) up in
      over_builtin facts entry number true word (denoted.Value kinds.Int true) up line apart (number_known word number (sym (ap (is_builtin_field word) is) ∙ has))
  given_known (suc levels) entry (stands_under other one class up line items apart above_it) word has =
      let is : builtin_along facts.names facts.program (ancestry facts.parents entry) ≡ builtin_along facts.names facts.program (ancestry facts.parents other) =
      ap (builtin_along facts.names facts.program) line ∙ ap (builtin_or (builtin_along facts.names facts.program (ancestry facts.parents other))) up in
      over_class facts levels entry other true word (denoted.Value kinds.Int true) up line apart above_it
      (given_known levels other above_it word (sym (ap (is_builtin_field word) is) ∙ has))

  pub builtin_known : (class : Meaning) → ((entry : ℕ) → class ≡ meanings.Entry entry → (levels : ℕ) × Lined facts levels entry) → (word : List ℕ)
      → is_builtin_field word (builtin_of facts class) ≡ true → class_field facts true word class ≡ Some (denoted.Value kinds.Int true)
  builtin_known (meanings.BuiltIn number) line word has = number_known word number has
  builtin_known (meanings.Entry entry) line word has = let found = line entry refl in given_known found.0 entry found.1 word has

  -- ---- bounds

  last_out : (fields : List FieldValue) (line : List ℕ) (number : ℕ) → list_any (is_class_out fields) (behind_all number line) ≡ false
      → is_out_of_bounds fields number ≡ false
  last_out fields [] number none = by (is_out_of_bounds fields number) none
    where
      by : (b : Bool) → (b || false) ≡ false → b ≡ false
      by true told = told
      by false told = told
  last_out fields (entry ∷ more) number none = last_out fields more number none

  bounds_kept : (fields : List FieldValue) (class : Meaning) → list_any (is_class_out fields) (line_up facts class) ≡ false
      → is_out_of_bounds fields (builtin_of facts class) ≡ false
  bounds_kept fields (meanings.BuiltIn number) none = last_out fields [] number none
  bounds_kept fields (meanings.Entry entry) none =
      last_out fields (ancestry facts.parents entry) (builtin_along facts.names facts.program (ancestry facts.parents entry)) none

-- ---- the numbers of an object

-- the field is set to this number
record IsNumber (facts : Facts) (fields : List FieldValue) (word : List ℕ) : Type 0 where
  number : ℤ
  is_set : field_datum word fields ≡ Some (datums.Number number)
  value : field_value facts.names fields word ≡ number
  right : IsValue number

module _ (facts : Facts) (objects : List MadeObject) (object : MadeObject)
    (line : (entry : ℕ) → object.class ≡ meanings.Entry entry → (levels : ℕ) × Lined facts levels entry)
    (typed : All (IsTypedField facts objects object.class) object.fields) (whole : IsWhole facts object) where
  number_of : (kind : TypeKind) → kind ≡ kinds.Int → (datum : Datum) → IsDatum facts objects kind datum → (number : ℤ) × (datum ≡ datums.Number number) × IsValue number
  number_of kinds.Int same (datums.Number number) is = (number, refl, is)
  number_of kinds.Int same (datums.Decimal thousandths) is = absurd is
  number_of kinds.Int same (datums.Truth truth) is = absurd is
  number_of kinds.Int same (datums.Member entry) is = absurd is
  number_of kinds.Int same (datums.Object other) is = absurd is
  number_of kinds.Float same datum is = absurd (cc)
  number_of kinds.Bool same datum is = absurd (cc)
  number_of (kinds.Enum of) same datum is = absurd (cc)
  number_of (kinds.Object class) same datum is = absurd (cc)

  is_number : (word : List ℕ) → is_builtin_field word (builtin_of facts object.class) ≡ true → IsNumber facts object.fields word
  is_number word has =
      let field = builtin_known facts object.class line word has in
      let set = whole.set word (denoted.Value kinds.Int true) field in
      let it = typed_datum facts objects object.class object.fields word set.0 typed set.1 in
      let told : denoted.Value it.0 true ≡ denoted.Value kinds.Int true = same_Some (denoted.Value it.0 true) (denoted.Value kinds.Int true) (sym it.1 ∙ field) in
      let same : it.0 ≡ kinds.Int = cc in
      let of = number_of it.0 same set.0 it.2 in
      let is_set : field_datum word object.fields ≡ Some (datums.Number of.0) = set.1 ∙ ap (λ (d : Datum). Some d) of.1 in
      record { number = of.0; is_set = is_set; value = ap (datum_value facts.names) is_set; right = of.2 }

  not_below : (one other : ℤ) → int_lt one other ≡ false → other ≤ℤ one
  not_below one other none = omega (arith, ints)

  neither : (one other : Bool) → (one || other) ≡ false → (one ≡ false) × (other ≡ false)
  neither false other none = (refl, none)
  neither true other none = absurd (let e : true ≡ false = none in cc)

  capacity_right : (number : ℕ) → builtin_of facts object.class ≡ number → number ≡ 2 → is_out_of_bounds object.fields number ≡ false
      → IsValue (field_value facts.names object.fields (codes "capacity")) × (pos 0 ≤ℤ field_value facts.names object.fields (codes "capacity"))
  capacity_right number is two none =
      let it = is_number (codes "capacity") (ap (is_builtin_field (codes "capacity")) (is ∙ two)) in
      let told : datum_below (field_datum (codes "capacity") object.fields) (Some (datums.Number (pos 0))) ≡ false =
      sym (ap (is_out_of_bounds object.fields) two) ∙ none in
      let below : int_lt it.number (pos 0) ≡ false = sym (ap (λ (d : Option Datum). datum_below d (Some (datums.Number (pos 0)))) it.is_set) ∙ told in
      let P : ℤ → Type 0 = λ z. IsValue z × (pos 0 ≤ℤ z) in
      subst P (sym it.value) (it.right, not_below it.number (pos 0) below)

  levels_right : (number : ℕ) → builtin_of facts object.class ≡ number → number ≡ 3 → is_out_of_bounds object.fields number ≡ false
      → IsValue (field_value facts.names object.fields (codes "low")) × IsValue (field_value facts.names object.fields (codes "high"))
      × (field_value facts.names object.fields (codes "low") ≤ℤ field_value facts.names object.fields (codes "initial"))
      × (field_value facts.names object.fields (codes "initial") ≤ℤ field_value facts.names object.fields (codes "high"))
  levels_right number is three none =
      let initial = is_number (codes "initial") (ap (is_builtin_field (codes "initial")) (is ∙ three)) in
      let low = is_number (codes "low") (ap (is_builtin_field (codes "low")) (is ∙ three)) in
      let high = is_number (codes "high") (ap (is_builtin_field (codes "high")) (is ∙ three)) in
      let told : (datum_below (field_datum (codes "initial") object.fields) (field_datum (codes "low") object.fields)
      || datum_below (field_datum (codes "high") object.fields) (field_datum (codes "initial") object.fields)) ≡ false =
      sym (ap (is_out_of_bounds object.fields) three) ∙ none in
      let both = neither (datum_below (field_datum (codes "initial") object.fields) (field_datum (codes "low") object.fields))
      (datum_below (field_datum (codes "high") object.fields) (field_datum (codes "initial") object.fields)) told in
      let under : int_lt initial.number low.number ≡ false = sym (λ i. datum_below (initial.is_set i) (low.is_set i)) ∙ both.0 in
      let over : int_lt high.number initial.number ≡ false = sym (λ i. datum_below (high.is_set i) (initial.is_set i)) ∙ both.1 in
      let first = not_below initial.number low.number under in
      let second = not_below high.number initial.number over in (
        subst IsValue (sym low.value) low.right,
        subst IsValue (sym high.value) high.right,
        subst (λ (z : ℤ). z ≤ℤ field_value facts.names object.fields (codes "initial")) (sym low.value)
            (subst (λ (z : ℤ). low.number ≤ℤ z) (sym initial.value) first),
        subst (λ (z : ℤ). z ≤ℤ field_value facts.names object.fields (codes "high")) (sym initial.value)
            (subst (λ (z : ℤ). initial.number ≤ℤ z) (sym high.value) second),
      )

  -- what it means for the tokens on it is lawful
  pub kind_right : IsLawfulKind (object_kind facts.names object.fields (builtin_of facts object.class))
  kind_right =
      let number = builtin_of facts object.class in
      by number refl (bounds_kept facts object.fields object.class whole.inside) (number == 1) (number == 2) (number == 3) refl refl
    where
      by : (number : ℕ) → builtin_of facts object.class ≡ number → is_out_of_bounds object.fields number ≡ false → (one two three : Bool)
          → (number == 2) ≡ two → (number == 3) ≡ three
          → IsLawfulKind
          (if one then object_kinds.Timeline
          else (if two then object_kinds.Reusable (field_value facts.names object.fields (codes "capacity"))
          else (if three
          then object_kinds.Reservoir (field_value facts.names object.fields (codes "initial")) (field_value facts.names object.fields (codes "low"))
          (field_value facts.names object.fields (codes "high"))
          else object_kinds.Plain)))
      by number is none true two three is_two is_three = tt
      by number is none false true three is_two is_three = capacity_right number is ((Decides-eqb number 2).0 is_two) none
      by number is none false false true is_two is_three = levels_right number is ((Decides-eqb number 3).0 is_three) none
      by number is none false false false is_two is_three = tt
