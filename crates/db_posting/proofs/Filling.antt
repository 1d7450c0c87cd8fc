-- Tables that are filled with what objects have in a field.
use Rattle.std.proofs.Common.{◌≡◌, ℕ, zero, suc, ℤ, pos, to_z, of_z, w32, ◌+◌, ◌<◌, ◌≤◌, ◌<ℤ◌, List, [], ◌∷◌, ◌++◌, length, take, get_or, slice_get, Option, Some, None, max, inl, inr, refl, sym, ap, ◌∙◌, subst, arith}
use Rattle.std.specs.List.{AllZip}
use Rattle.std.specs.Prelude.{All, Contains, IsSomeAnd, ◌↔◌}
use Rattle.std.proofs.lemmas.Bool.{cases_lt}
use Rattle.std.proofs.lemmas.Int.{ints}
use Rattle.std.proofs.lemmas.List.{length_push}
use Rattle.std.proofs.lemmas.List.Elements.{All-push, All-nil, All-weaker, Contains-append_left, Contains-append_right, Contains-append_cases}
use Rattle.std.proofs.lemmas.List.Quantifiers.{all_pairs_push}
use Rattle.std.proofs.lemmas.Option.{slice_get_within, slice_get-map}
use Rattle.std.specs.Option.{option_map}
use Rattle.std.proofs.lemmas.Slice.Zip.{AllZip-long}
use Rattle.domain_core.specs.Domain.{IsValue}
use Rattle.model_core.specs.declared.class.Class.{Class}
use Rattle.model_core.specs.declared.class.Object.{Object}
use Rattle.model_core.specs.declared.model.Model.{Model}
use Rattle.model_core.specs.declared.variable.ValueKind.{ValueKind}
use Rattle.model_core.specs.declared.variable.VarDecl.{VarDecl}
use Rattle.model_core.specs.Kinds.{IsValueOf}
use Rattle.model_core.specs.Lawful.{IsLawful, IsLawfulObject}
use Rattle.narrow_core.specs.declared.field.Field.{Field}
use Rattle.narrow_core.specs.declared.field.FieldEntry.{FieldEntry}
use Rattle.narrow_core.specs.Meanings.{IsInTable}
use Rattle.constraint_net.specs.Calls.{IsAscending, given_by, table_of}
use Rattle.plan_defs.specs.Consistency.{HasField}
use Rattle.eu_name.proofs.Members.{get_all, get_below, get_same, get_from_contains, contains_from_get}
use Rattle.db_refine.specs.Claims.{AreFieldsOf}
use Rattle.db_store.proofs.Lists.{unmapped}
use Rattle.db_posting.specs.Tables.{ListsField, HaveTables}
use Rattle.db_posting.proofs.Allowing.{value_of_kind}
use Rattle.db_posting.proofs.Taking.{all_more}

-- ---- how many there are

abbrev pub HasAtMost : ℕ → Class → Type 0
HasAtMost count class = length class.fields ≤ count

pub most_more : (classes : List Class) (index most now : ℕ) (class : Class) → index < length classes → class ≡ get_or classes index class → All (HasAtMost most) (take index classes)
    → now ≡ max (length class.fields) most → All (HasAtMost now) (take (index + 1) classes)
most_more classes index most now class below is all greater =
    all_more (HasAtMost now) classes index class below
    (All-weaker (HasAtMost most) (HasAtMost now) (λ one few. let le : length one.fields ≤ most = few in omega (arith, le, greater)) (take index classes) all)
    (subst (HasAtMost now) is (let le : length class.fields ≤ now = omega (arith, greater) in le))

-- ---- the pairs of one field

module _ (model : Model) (number : ℕ) where
  -- one of the first so many objects has this value in the field
  pub record HasBefore (count : ℕ) (object value : ℤ) : Type 0 where
    pub found : Object
    pub place : ℕ
    pub before : place < count
    pub is : object ≡ pos place
    pub is_object : slice_get model.objects place ≡ Some found
    pub has : slice_get found.fields number ≡ Some value

  pub record AreFilled (count : ℕ) (pairs : List (ℤ × ℤ)) : Type 0 where
    pub ascending : IsAscending pairs
    pub below : All (λ pair. pair.0 <ℤ pos count) pairs
    pub each : (object value : ℤ) → Contains pairs (object, value) ↔ HasBefore count object value

  nothing_before : (object value : ℤ) → HasBefore 0 object value → ⊥
  nothing_before object value has = absurd (let below = has.before in omega (arith, below))

  pub none_filled : AreFilled 0 []
  none_filled =
      record {
        ascending = λ i j d less within. absurd (omega arith);
        below = All-nil (λ pair. pair.0 <ℤ pos 0);
        each = λ object value. (λ there. absurd (let below = there.1 in omega (arith, below)), λ has. absurd (nothing_before object value has));
      }

  one_more : (count : ℕ) (object value : ℤ) → HasBefore count object value → HasBefore (count + 1) object value
  one_more count object value has =
      let below = has.before in
      record { found = has.found; place = has.place; before = omega (arith, below); is = has.is; is_object = has.is_object; has = has.has }

  below_more : (count : ℕ) (pairs : List (ℤ × ℤ)) → All (λ pair. pair.0 <ℤ pos count) pairs → All (λ pair. pair.0 <ℤ pos (count + 1)) pairs
  below_more count pairs all =
      All-weaker (λ (pair : ℤ × ℤ). pair.0 <ℤ pos count) (λ (pair : ℤ × ℤ). pair.0 <ℤ pos (count + 1))
      (λ pair less. let one : pair.0 <ℤ pos count = less in omega (arith, ints, one)) pairs all

  -- the next object, which is this one, hasn't the field
  pub filled_on : (count : ℕ) (pairs : List (ℤ × ℤ)) (found : Object) → slice_get model.objects count ≡ Some found → slice_get found.fields number ≡ None
      → AreFilled count pairs → AreFilled (count + 1) pairs
  filled_on count pairs found is none filled =
      record {
        ascending = filled.ascending;
        below = below_more count pairs filled.below;
        each = λ object value. (λ there. one_more count object value ((filled.each object value).0 there), λ has. back object value has);
      }
    where
      back : (object value : ℤ) → HasBefore (count + 1) object value → Contains pairs (object, value)
      back object value has = elim (cases_lt has.place count) [
        | inl less ↦ (filled.each object value).1 (record { found = has.found; place = has.place; before = less; is = has.is; is_object = has.is_object; has = has.has })
        | inr over ↦
            let before = has.before in
            let same : has.place ≡ count = omega (arith, before, over) in
            let one = get_same model.objects count has.found found (subst (λ n. slice_get model.objects n ≡ Some has.found) same has.is_object) is in
            let other : Some value ≡ None = sym has.has ∙ (ap (λ (object : Object). slice_get object.fields number) one ∙ none) in
            absurd (cc)
      ]

  -- the next object has it
  pub filled_more : (count : ℕ) (pairs : List (ℤ × ℤ)) (found : Object) (next : ℤ) → slice_get model.objects count ≡ Some found → slice_get found.fields number ≡ Some next
      → AreFilled count pairs → AreFilled (count + 1) (pairs ++ (pos count, next) ∷ [])
  filled_more count pairs found next is has_next filled =
      record {
        ascending = all_pairs_push (λ (one later : ℤ × ℤ). one.0 <ℤ later.0) pairs (pos count, next) filled.ascending (λ k d below. filled.below k d below);
        below = All-push (λ (pair : ℤ × ℤ). pair.0 <ℤ pos (count + 1)) pairs (pos count, next) (below_more count pairs filled.below) (let less : pos count <ℤ pos (count + 1) = omega (arith, ints) in less);
        each = λ object value. (there object value, back object value);
      }
    where
      last_there : (object value : ℤ) → Contains {X = ℤ × ℤ} ((pos count, next) ∷ []) (object, value) → HasBefore (count + 1) object value
      last_there object value at =
          let place : at.0 ≡ 0 = (let below = at.1 in omega (arith, below)) in
          let same : (pos count, next) ≡ (object, value) = subst (λ k. get_or ((pos count, next) ∷ []) k (object, value) ≡ (object, value)) place at.2 in
          record {
            found = found;
            place = count;
            before = omega arith;
            is = sym (ap (λ (pair : ℤ × ℤ). pair.0) same);
            is_object = is;
            has = has_next ∙ ap (λ (pair : ℤ × ℤ). Some pair.1) same;
          }

      there : (object value : ℤ) → Contains (pairs ++ (pos count, next) ∷ []) (object, value) → HasBefore (count + 1) object value
      there object value at = elim (Contains-append_cases pairs ((pos count, next) ∷ []) (object, value) at) [
        | inl before ↦ one_more count object value ((filled.each object value).0 before)
        | inr last ↦ last_there object value last
      ]

      back : (object value : ℤ) → HasBefore (count + 1) object value → Contains (pairs ++ (pos count, next) ∷ []) (object, value)
      back object value has = elim (cases_lt has.place count) [
        | inl less ↦ Contains-append_left pairs ((pos count, next) ∷ []) (object, value)
            ((filled.each object value).1 (record { found = has.found; place = has.place; before = less; is = has.is; is_object = has.is_object; has = has.has }))
        | inr over ↦
            let before = has.before in
            let same : has.place ≡ count = omega (arith, before, over) in
            let one = get_same model.objects count has.found found (subst (λ n. slice_get model.objects n ≡ Some has.found) same has.is_object) is in
            let other : Some next ≡ Some value = sym has_next ∙ (sym (ap (λ (object : Object). slice_get object.fields number) one) ∙ has.has) in
            let value_is : next ≡ value = cc in
            let object_is : pos count ≡ object = sym (has.is ∙ ap pos same) in
            Contains-append_right pairs ((pos count, next) ∷ []) (object, value) (0, omega arith, λ i. (object_is i, value_is i))
      ]

  -- all objects have been looked at
  pub all_filled : (count : ℕ) (pairs : List (ℤ × ℤ)) → length model.objects ≤ count → AreFilled count pairs → ListsField model number pairs
  all_filled count pairs all filled =
      record {
        ascending = filled.ascending;
        each = λ object value. (
          λ at. let has = (filled.each object value).0 at in (has.found, (has.place, has.is, has.is_object), has.has),
          λ has. (filled.each object value).1 (let within = slice_get_within model.objects has.1.0 has.0 has.1.2 in
              record { found = has.0; place = has.1.0; before = omega (arith, within, all); is = has.1.1; is_object = has.1.2; has = has.2 }),
        );
      }

  -- ---- one step of the loop

  value_of : (variables : List VarDecl) (values : List ℤ) (k : ℕ) (value : ℤ) → AllZip (λ variable value. IsValueOf model variable.kind value) variables values → slice_get values k ≡ Some value
      → (kind : ValueKind) × IsValueOf model kind value
  value_of [] [] k value zip at = absurd (cc)
  value_of [] (first ∷ values) k value zip at = absurd zip
  value_of (variable ∷ variables) [] k value zip at = absurd zip
  value_of (variable ∷ variables) (first ∷ values) zero value zip at = let same : first ≡ value = cc in (variable.kind, subst (IsValueOf model variable.kind) same zip.0)
  value_of (variable ∷ variables) (first ∷ values) (suc k) value zip at = value_of variables values k value zip.1 at

  pub field_value : IsLawful model → (count : ℕ) (found : Object) (value : ℤ) → slice_get model.objects count ≡ Some found → slice_get found.fields number ≡ Some value → IsValue value
  field_value lawful count found value is has =
      let object = get_all (IsLawfulObject model) model.objects count found lawful.objects is in
      let of_kind = value_of object.class.fields found.fields number value object.fields has in
      value_of_kind model lawful of_kind.0 value of_kind.1

  pub step_more : IsLawful model → (count : ℕ) (pairs new : List (ℤ × ℤ)) (found : Object) (next : ℤ) → slice_get model.objects count ≡ Some found → slice_get found.fields number ≡ Some next
      → new ≡ pairs ++ (to_z w32 count, to_z w32 (of_z w32 next)) ∷ [] → AreFilled count pairs → AreFilled (count + 1) new
  step_more lawful count pairs new found next is has pushed filled =
      let value = field_value lawful count found next is has in
      let few = lawful.few_objects in
      let within = get_below model.objects count found is in
      let place : to_z w32 count ≡ pos count = omega (arith, ints, few, within) in
      let same : to_z w32 (of_z w32 next) ≡ next = omega (arith, ints, value) in
      let all : new ≡ pairs ++ (pos count, next) ∷ [] = pushed ∙ (λ i. pairs ++ (place i, same i) ∷ []) in
      subst (AreFilled (count + 1)) (sym all) (filled_more count pairs found next is has filled)

-- nothing stands past the end of a list
pub get_past : {X : Type 0} (xs : List X) (k : ℕ) → length xs ≤ k → slice_get xs k ≡ None
get_past [] k past = refl
get_past (x ∷ xs) zero past = absurd (omega (arith, past))
get_past (x ∷ xs) (suc k) past = get_past xs k (omega (arith, past))

-- ---- all tables

-- the first so many tables are those of the fields of their numbers
abbrev pub AreTablesTo : Model → List Field → ℕ → Type 0
AreTablesTo model tables count =
    (number : ℕ) → number < count → (pairs : List (ℤ × ℤ)) × ListsField model number pairs × (slice_get tables number ≡ Some (table_of pairs))

abbrev entry_of : ℤ × ℤ → FieldEntry
entry_of pair = record { object = pair.0; value = pair.1 }

module _ (model : Model) where
  get_left : (xs ys : List Field) (k : ℕ) (x : Field) → slice_get xs k ≡ Some x → slice_get (xs ++ ys) k ≡ Some x
  get_left [] ys k x at = absurd (cc)
  get_left (first ∷ xs) ys zero x at = at
  get_left (first ∷ xs) ys (suc k) x at = get_left xs ys k x at

  get_last : (xs : List Field) (x : Field) → slice_get (xs ++ x ∷ []) (length xs) ≡ Some x
  get_last [] x = refl
  get_last (first ∷ xs) x = get_last xs x

  pub tables_more : (old new : List Field) (count : ℕ) (pairs : List (ℤ × ℤ)) → length old ≡ count → ListsField model (length old) pairs → new ≡ old ++ table_of pairs ∷ [] → AreTablesTo model old count
      → AreTablesTo model new (count + 1)
  tables_more old new count pairs long lists is each number below = elim (cases_lt number count) [
    | inl less ↦
        let former = each number less in
        (former.0, former.1, subst (λ list. slice_get list number ≡ Some (table_of former.0)) (sym is) (get_left old (table_of pairs ∷ []) number (table_of former.0) former.2))
    | inr over ↦
        let same : length old ≡ number = omega (arith, long, below, over) in (
          pairs,
          subst (λ n. ListsField model n pairs) same lists,
          subst (λ n. slice_get new n ≡ Some (table_of pairs)) same (subst (λ list. slice_get list (length old) ≡ Some (table_of pairs)) (sym is) (get_last old (table_of pairs))),
        )
  ]

  in_table : (pairs : List (ℤ × ℤ)) (object value : ℤ) → IsInTable (given_by pairs) object value ↔ Contains pairs (object, value)
  in_table pairs object value = (there, back)
    where
      there : IsInTable (given_by pairs) object value → Contains pairs (object, value)
      there is =
          let at = get_from_contains (given_by pairs) is.0 is.1 in
          let pair = unmapped (entry_of) pairs at.0 is.0 at.1 in
          let same : pair.0 ≡ (object, value) = λ i. (
            (ap (λ (entry : FieldEntry). entry.object) pair.2 ∙ is.2) i,
            (ap (λ (entry : FieldEntry). entry.value) pair.2 ∙ is.3) i,
          ) in
          subst (Contains pairs) same (contains_from_get pairs at.0 pair.0 pair.1)

      back : Contains pairs (object, value) → IsInTable (given_by pairs) object value
      back at =
          let place = get_from_contains pairs (object, value) at in
          let entry : FieldEntry = record { object = object; value = value } in
          let there = slice_get-map (entry_of) pairs place.0 ∙ ap (option_map (entry_of)) place.1 in
          (entry, contains_from_get (given_by pairs) place.0 entry there, refl, refl)

  some_is : (found : Option Field) (Is : Field → Type 0) (table : Field) → found ≡ Some table → IsSomeAnd found Is ↔ Is table
  some_is None Is table is = absurd (cc)
  some_is (Some one) Is table is = let same : one ≡ table = cc in (λ has. subst Is same has, λ has. subst Is (sym same) has)

  none_is : (tables : List Field) (number : ℕ) (Is : Field → Type 0) → length tables ≤ number → IsSomeAnd (slice_get tables number) Is → ⊥
  none_is [] number Is past is = is
  none_is (table ∷ tables) zero Is past is = absurd (omega (arith, past))
  none_is (table ∷ tables) (suc number) Is past is = none_is tables number Is (omega (arith, past)) is

  field_within : IsLawful model → (tables : List Field) → HaveTables model tables → (number : ℕ) (object value : ℤ) → HasField model number object value → number < length tables
  field_within lawful tables have number object value has =
      let found = get_all (IsLawfulObject model) model.objects has.1.0 has.0 lawful.objects has.1.2 in
      let few = get_all (λ (class : Class). length class.fields ≤ length tables) model.classes has.0.class found.class have found.is_class in
      let long = AllZip-long (λ variable value. IsValueOf model variable.kind value) found.class.fields has.0.fields found.fields in
      let within = slice_get_within has.0.fields number value has.2 in
      omega (arith, few, long, within)

  pub fields_are : IsLawful model → (tables : List Field) → HaveTables model tables → AreTablesTo model tables (length tables) → AreFieldsOf model tables
  fields_are lawful tables have each number object value = elim (cases_lt number (length tables)) [
    | inl less ↦
        let table = each number less in
        let some = some_is (slice_get tables number) (λ table. IsInTable table.entries object value) (table_of table.0) table.2 in
        let inside = in_table table.0 object value in
        let lists = table.1.each object value in
        (λ is. lists.0 (inside.0 (some.0 is)), λ has. some.1 (inside.1 (lists.1 has)))
    | inr over ↦ (
      λ is. absurd (none_is tables number (λ table. IsInTable table.entries object value) over is),
      λ has. absurd (let within = field_within lawful tables have number object value has in omega (arith, within, over)),
    )
  ]

pub tables_long : (old new : List Field) (count : ℕ) (pairs : List (ℤ × ℤ)) → length old ≡ count → new ≡ old ++ table_of pairs ∷ [] → length new ≡ count + 1
tables_long old new count pairs long is = ap length is ∙ (length_push old (table_of pairs) ∙ ap (λ n. n + 1) long)
