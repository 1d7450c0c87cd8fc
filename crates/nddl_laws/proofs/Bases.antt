-- What variables may be that are declared with types is lawful.
use Rattle.std.proofs.Common.{◌≡◌, ℕ, zero, suc, ◌+◌, ◌<◌, ◌≤◌, Bool, true, false, List, [], ◌∷◌, length, get_or, map, ℤ, pos, negsuc, inl, inr, refl, sym, ◌∙◌, ap, subst, arith}
use Rattle.std.specs.Prelude.{Option, Some, All, slice_get, int_lt, if◌then◌else◌}
use Rattle.std.specs.List.{filter_map, range_with_len, cons_option}
use Rattle.std.specs.Option.{option_and_then, option_map_or}
use Rattle.std.proofs.lemmas.Option.{same_Some}
use Rattle.std.proofs.lemmas.Int.{ints}
use Rattle.std.proofs.lemmas.List.{length-map}
use Rattle.std.proofs.lemmas.List.Elements.{All-nil, All-cons, All-head, All-tail, All-weaker, All-map, All-contains, Contains-get_or}
use Rattle.domain_core.specs.Domain.{AreMembers, Has, IsDomain, IsRange, IsValue, Range, Set}
use Rattle.model_core.specs.declared.class.Enum.{Enum}
use Rattle.model_core.specs.declared.model.Model.{Model}
use Rattle.model_core.specs.Kinds.{IsBaseOf, IsInKind, IsKind, IsNumeric, IsValueOf}
use Rattle.model_core.specs.Lawful.{IsLawfulBase, IsLawfulEnum}
use Rattle.model_core.proofs.Items.{item_all, item_at, item_within}
use Rattle.nddl_symbols.specs.declared.declared.Declared.{Declared}
use Rattle.nddl_symbols.specs.declared.declared.Sort.TheVariants as sorts
use Rattle.nddl_typeexpr.specs.declared.kind.Extent.{Extent}
use Rattle.nddl_typeexpr.specs.declared.kind.Extent.TheVariants as extents
use Rattle.nddl_typeexpr.specs.declared.kind.TypeKind.{TypeKind}
use Rattle.nddl_typeexpr.specs.declared.kind.TypeKind.TheVariants as kinds
use Rattle.nddl_declarations.specs.Ascending.{ascending_of, with_placed}
use Rattle.nddl_declarations.specs.Domains.{base_of, enum_size, place_of_member, place_of_sort, value_kind}
use Rattle.nddl_declarations.proofs.Placing.{ascending_has, ascending_is}
use Rattle.nddl_laws.proofs.Fitting.{AreEnds, FitsExtent, FitsKind}
use Rattle.nddl_laws.proofs.Lists.{all_kept}
use Rattle.nddl_laws.proofs.Numbers.{HasEnum, HasMember}
use Rattle.nddl_laws.proofs.Values.{IsKept, IsOwnMember}

-- ---- lists

placed_some : (number : ℤ) (xs : List ℤ) → 0 < length (with_placed number xs)
placed_some number [] = omega arith
placed_some number (x ∷ xs) = by (int_lt number x) (int_lt x number)
  where
    by : (before behind : Bool) → 0 < length (if before then number ∷ (x ∷ xs) else (if behind then x ∷ with_placed number xs else x ∷ xs))
    by true behind = omega arith
    by false true = omega arith
    by false false = omega arith

placed_few : (number : ℤ) (xs : List ℤ) → length (with_placed number xs) ≤ length xs + 1
placed_few number [] = omega arith
placed_few number (x ∷ xs) = by (int_lt number x) (int_lt x number) (placed_few number xs)
  where
    by : (before behind : Bool) → length (with_placed number xs) ≤ length xs + 1
        → length (if before then number ∷ (x ∷ xs) else (if behind then x ∷ with_placed number xs else x ∷ xs)) ≤ length (x ∷ xs) + 1
    by true behind rest = omega arith
    by false true rest = omega arith
    by false false rest = omega arith

ascending_some : (xs : List ℤ) → 0 < length xs → 0 < length (ascending_of xs)
unfolding ascending_of
ascending_some [] some = absurd (omega arith)
ascending_some (number ∷ more) some = placed_some number (ascending_of more)

ascending_few : (xs : List ℤ) → length (ascending_of xs) ≤ length xs
unfolding ascending_of
ascending_few [] = omega arith
ascending_few (number ∷ more) =
    let rest : length (ascending_of more) ≤ length more = ascending_few more in
    let one : length (with_placed number (ascending_of more)) ≤ length (ascending_of more) + 1 = placed_few number (ascending_of more) in
    omega arith

-- a set of the values of a list, in order
pub set_right : (values : List ℤ) → All IsValue values → 0 < length values → length values ≤ 4096 → AreMembers (ascending_of values)
set_right values all some few = record {
  ascending = ascending_is values;
  values = λ k d within.
      let member = get_or (ascending_of values) k d in
      All-contains IsValue values member all ((ascending_has values member).0 (Contains-get_or (ascending_of values) k d within));
  some = ascending_some values some;
  few = (let most : length (ascending_of values) ≤ length values = ascending_few values in omega arith);
}

all_range : (P : ℕ → Type 0) (from count : ℕ) → ((k : ℕ) → from ≤ k → k < from + count → P k) → All P (range_with_len from count)
all_range P from zero each = All-nil P
all_range P from (suc count) each =
    All-cons P from (range_with_len (from + 1) count) (each from (omega arith) (omega arith))
    (all_range P (from + 1) count (λ k least less. each k (omega arith) (omega arith)))

range_long : (from count : ℕ) → length (range_with_len from count) ≡ count
range_long from zero = refl
range_long from (suc count) = let rest : length (range_with_len (from + 1) count) ≡ count = range_long (from + 1) count in omega arith

kept_long : {X Y : Type 0} (f : X → Option Y) (xs : List X) → All (λ x. (y : Y) × (f x ≡ Some y)) xs → length (filter_map f xs) ≡ length xs
kept_long f [] all = refl
kept_long {X} {Y} f (x ∷ xs) all =
    let here = All-head (λ x. (y : Y) × (f x ≡ Some y)) x xs all in
    let rest : length (filter_map f xs) ≡ length xs = kept_long f xs (All-tail (λ x. (y : Y) × (f x ≡ Some y)) x xs all) in
    let P : Option Y → Type 0 = λ o. length (cons_option o (filter_map f xs)) ≡ length (x ∷ xs) in
    subst P (sym here.1) (omega arith)

-- ---- values

-- all numbers, and those between two ends
pub whole_ends : IsDomain (Range (negsuc 999999) (pos 1000000))
whole_ends = ((omega (arith, ints), omega (arith, ints)), (omega (arith, ints), omega (arith, ints)), omega (arith, ints))

pub between : (least greatest value : ℤ) → AreEnds least greatest → Has (Range least greatest) value → IsValue value
between least greatest value ends has =
    let low = ends.0.0 in
    let high = ends.1.1 in
    (let from = has.0 in omega (arith, ints), let to = has.1 in omega (arith, ints))

-- numbers of members and of objects are values
pub small : (k : ℕ) → k ≤ 4096 → IsValue (pos k)
small k few = (omega (arith, ints), omega (arith, ints))

module _ (names : List Declared) (enums : List Enum) (model : Model) (same : model.enums ≡ enums) (lawful : All IsLawfulEnum enums)
    (members : (entry number place : ℕ) (declared : Declared) → slice_get names entry ≡ Some declared
    → declared.sort ≡ sorts.Member number place → HasMember enums number place) where
  -- a value of the kind
  Listed : TypeKind → ℤ → Type 0
  Listed kind value = IsValue value × IsValueOf model (value_kind kind) value

  -- the place of a member
  place_right : (number place : ℕ) → HasMember enums number place → Listed (kinds.Enum number) (pos place)
  unfolding Listed
  place_right number place has =
      let within = item_within has.found.members place has.member has.is_member in
      let few = (item_all IsLawfulEnum enums number has.found lawful has.there).few in (
        small place (omega arith),
        record {
          found = has.found;
          is_enum = ap (λ some. slice_get some number) same ∙ has.there;
          place = place;
          is_place = refl;
          member = has.member;
          is_member = has.is_member;
        },
      )

  own_place : (number : ℕ) (value : ℤ) (own : IsOwnMember names number value) → place_of_member names value ≡ Some (pos own.place)
  own_place number value own =
      ap (place_of_member names) own.is_number
      ∙ (ap (option_and_then (λ (declared : Declared). place_of_sort declared.sort)) own.there ∙ ap place_of_sort own.sort)

  own_right : (number : ℕ) (value place : ℤ) → IsOwnMember names number value → place_of_member names value ≡ Some place → Listed (kinds.Enum number) place
  own_right number value place own is =
      let e : pos own.place ≡ place = same_Some (pos own.place) place (sym (own_place number value own) ∙ is) in
      subst (Listed (kinds.Enum number)) e (place_right number own.place (members own.entry number own.place own.declared own.there own.sort))

  -- all members of an enum
  size_is : (number : ℕ) (has : HasEnum enums number) → enum_size enums number ≡ length has.found.members
  size_is number has = ap (λ o. option_map_or (λ (found : Enum). length found.members) o 0) has.there

  whole_right : (number : ℕ) → HasEnum enums number → All (Listed (kinds.Enum number)) (map pos (range_with_len 0 (enum_size enums number)))
  whole_right number has =
      All-map (Listed (kinds.Enum number)) pos (range_with_len 0 (enum_size enums number))
      (all_range (λ k. Listed (kinds.Enum number) (pos k)) 0 (enum_size enums number) (λ k least less.
      let within : k < length has.found.members = (let size = size_is number has in omega arith) in
      let at = item_at has.found.members k [] within in
      place_right number k (record { found = has.found; there = has.there; member = get_or has.found.members k []; is_member = at })))

  -- what is listed of a type that isn't a range
  record IsListedSet (kind : TypeKind) (values : List ℤ) : Type 0 where
    each : All (Listed kind) values
    some : 0 < length values
    few : length values ≤ 4096

  listed_right : (kind : TypeKind) (values : List ℤ) → IsListedSet kind values → (range : IsRange (Set (ascending_of values)) → IsNumeric (value_kind kind))
      → IsDomain (Set (ascending_of values)) × IsInKind model (value_kind kind) (Set (ascending_of values))
  unfolding Listed
  listed_right kind values is range = (
    set_right values (All-weaker (Listed kind) IsValue (λ value right. right.0) values is.each) is.some is.few,
    record {
      values = λ value has. (All-contains (Listed kind) values value is.each ((ascending_has values value).0 has)).1;
      range = range;
    },
  )

  int_set : (values : List ℤ) → FitsExtent names kinds.Int (extents.Set values) → IsListedSet kinds.Int values
  unfolding Listed
  int_set values fit = record { each = All-weaker IsValue (Listed kinds.Int) (λ value right. (right, right)) values fit.0; some = fit.1; few = fit.2 }

  float_set : (values : List ℤ) → FitsExtent names kinds.Float (extents.Set values) → IsListedSet kinds.Float values
  unfolding Listed
  float_set values fit = record { each = All-weaker IsValue (Listed kinds.Float) (λ value right. (right, right)) values fit.0; some = fit.1; few = fit.2 }

  bool_set : (values : List ℤ) → FitsExtent names kinds.Bool (extents.Set values) → IsListedSet kinds.Bool values
  unfolding Listed
  bool_set values fit = record {
    each = All-weaker (IsKept names kinds.Bool) (Listed kinds.Bool) (λ value right. (
      elim right [
        | inl none ↦ subst IsValue (sym none) (small 0 (omega arith))
        | inr one ↦ subst IsValue (sym one) (small 1 (omega arith))
      ],
      right,
    )) values fit.0;
    some = fit.1;
    few = fit.2;
  }

  bool_whole : IsListedSet kinds.Bool (pos 0 ∷ pos 1 ∷ [])
  unfolding Listed
  bool_whole = record {
    each = All-cons (Listed kinds.Bool) (pos 0) (pos 1 ∷ []) (small 0 (omega arith), inl refl)
        (All-cons (Listed kinds.Bool) (pos 1) [] (small 1 (omega arith), inr refl) (All-nil (Listed kinds.Bool)));
    some = omega arith;
    few = omega arith;
  }

  enum_whole : (number : ℕ) → HasEnum enums number → IsListedSet (kinds.Enum number) (map pos (range_with_len 0 (enum_size enums number)))
  enum_whole number has =
      let one = item_all IsLawfulEnum enums number has.found lawful has.there in
      let size = size_is number has in
      let long = range_long 0 (enum_size enums number) in
      let mapped = length-map (range_with_len 0 (enum_size enums number)) pos in
      record {
        each = whole_right number has;
        some = (let some = one.some in omega arith);
        few = (let few = one.few in omega arith);
      }

  enum_set : (number : ℕ) (values : List ℤ) → FitsExtent names (kinds.Enum number) (extents.Set values)
      → IsListedSet (kinds.Enum number) (filter_map (place_of_member names) values)
  enum_set number values fit =
      let long = kept_long (place_of_member names) values
      (All-weaker (IsOwnMember names number) (λ value. (place : ℤ) × (place_of_member names value ≡ Some place))
      (λ value own. (pos own.place, own_place number value own)) values fit.0) in
      record {
        each = all_kept (Listed (kinds.Enum number)) (place_of_member names) values
            (All-weaker (IsOwnMember names number) (λ value. (place : ℤ) → place_of_member names value ≡ Some place → Listed (kinds.Enum number) place)
            (λ value own place is. own_right number value place own is) values fit.0);
        some = (let some = fit.1 in omega arith);
        few = (let few = fit.2 in omega arith);
      }

  -- the base of a type whose meaning fits is lawful
  pub base_right : (kind : TypeKind) (extent : Extent) → FitsKind enums kind → FitsExtent names kind extent
      → IsLawfulBase (base_of names enums kind extent) × IsBaseOf model (value_kind kind) (base_of names enums kind extent)
  base_right (kinds.Object class) extent here fit = (tt, refl)
  base_right kinds.Int extents.Whole here fit = (whole_ends, record { values = λ value has. has; range = λ is. tt })
  base_right kinds.Int (extents.Range least greatest) here fit = (fit, record { values = λ value has. between least greatest value fit has; range = λ is. tt })
  base_right kinds.Int (extents.Set values) here fit = listed_right kinds.Int values (int_set values fit) (λ is. tt)
  base_right kinds.Float extents.Whole here fit = (whole_ends, record { values = λ value has. has; range = λ is. tt })
  base_right kinds.Float (extents.Range least greatest) here fit = (fit, record { values = λ value has. between least greatest value fit has; range = λ is. tt })
  base_right kinds.Float (extents.Set values) here fit = listed_right kinds.Float values (float_set values fit) (λ is. tt)
  base_right kinds.Bool extents.Whole here fit = listed_right kinds.Bool (pos 0 ∷ pos 1 ∷ []) bool_whole (λ is. absurd is)
  base_right kinds.Bool (extents.Range least greatest) here fit = absurd fit
  base_right kinds.Bool (extents.Set values) here fit = listed_right kinds.Bool values (bool_set values fit) (λ is. absurd is)
  base_right (kinds.Enum number) extents.Whole here fit =
      listed_right (kinds.Enum number) (map pos (range_with_len 0 (enum_size enums number))) (enum_whole number here) (λ is. absurd is)
  base_right (kinds.Enum number) (extents.Range least greatest) here fit = absurd fit
  base_right (kinds.Enum number) (extents.Set values) here fit =
      listed_right (kinds.Enum number) (filter_map (place_of_member names) values) (enum_set number values fit) (λ is. absurd is)

  -- the kind is the model's
  pub kind_right : (kind : TypeKind) → FitsKind enums kind → IsKind model (value_kind kind)
  kind_right kinds.Int here = tt
  kind_right kinds.Float here = tt
  kind_right kinds.Bool here = tt
  kind_right (kinds.Enum number) here = (here.found, ap (λ some. slice_get some number) same ∙ here.there)
  kind_right (kinds.Object class) here = tt
