-- What types mean with which nothing is wrong: a kind that is there, and values of it.
use Rattle.std.proofs.Common.{◌≡◌, ℕ, ◌<◌, ◌≤◌, Bool, true, false, ◌&&◌, List, [], ◌∷◌, ◌++◌, length, ℤ, ◌≤ℤ◌, refl, sym, ◌∙◌, subst, arith, length-append}
use Rattle.std.specs.Prelude.{Option, Some, None, All, ⊤, not, nat_lt, int_le, if◌then◌else◌}
use Rattle.std.specs.List.{cons_option}
use Rattle.std.proofs.lemmas.Option.{none-some}
use Rattle.std.proofs.lemmas.Int.{ints}
use Rattle.std.proofs.lemmas.List.Elements.{All-nil, All-cons, All-head, All-tail, All-append, All-weaker}
use Rattle.domain_core.specs.Domain.{IsValue}
use Rattle.model_core.specs.declared.class.Enum.{Enum}
use Rattle.nddl_ast.specs.declared.expression.Bounds.{Bounds}
use Rattle.nddl_ast.specs.declared.expression.Bounds.TheVariants as bounds
use Rattle.nddl_ast.specs.declared.expression.Value.{Value}
use Rattle.nddl_ast.specs.declared.kind.TextKind.TheVariants as faults
use Rattle.nddl_ast.specs.Places.{value_place}
use Rattle.nddl_symbols.specs.declared.declared.Declared.{Declared}
use Rattle.nddl_symbols.specs.Finding.{faults_here}
use Rattle.nddl_symbols.specs.Scope.{fault_if}
use Rattle.nddl_typeexpr.specs.declared.kind.Extent.{Extent}
use Rattle.nddl_typeexpr.specs.declared.kind.Extent.TheVariants as extents
use Rattle.nddl_typeexpr.specs.declared.kind.TypeKind.{TypeKind}
use Rattle.nddl_typeexpr.specs.declared.kind.TypeKind.TheVariants as kinds
use Rattle.nddl_typeexpr.specs.declared.kind.TypeMeaning.{TypeMeaning}
use Rattle.nddl_typeexpr.specs.Bounds.{bounds_extent, bounds_faults, ends_faults, extent_between, has_too_many, is_wrong_range, members_faults, no_range_faults, own_numbers, set_faults}
use Rattle.nddl_typeexpr.specs.Kinds.{is_within}
use Rattle.nddl_typeexpr.specs.Members.{distinct_from, has_number, with_number}
use Rattle.nddl_typeexpr.specs.Values.{end_fault, end_number, member_fault, own_number, value_fault}
use Rattle.nddl_laws.specs.Fine.{IsFineBounds, IsFineValue}
use Rattle.nddl_laws.proofs.Lists.{all_kept, none_flat}
use Rattle.nddl_laws.proofs.Numbers.{HasEnum}
use Rattle.nddl_laws.proofs.Values.{IsKept, no_fault, not_so, own_kept, own_there}
use Rattle.nddl_laws.proofs.Nothing.{none_first, none_second}

-- they may be the ends of a range
abbrev pub AreEnds : ℤ → ℤ → Type 0
AreEnds least greatest = IsValue least × IsValue greatest × (least ≤ℤ greatest)

-- the values of a type of this kind are of it: of a range its ends are in order, and a set has from 1 to 4,096 members
abbrev pub FitsExtent : List Declared → TypeKind → Extent → Type 0
FitsExtent names kind extents.Whole = ⊤
FitsExtent names kinds.Int (extents.Range least greatest) = AreEnds least greatest
FitsExtent names kinds.Float (extents.Range least greatest) = AreEnds least greatest
FitsExtent names kind (extents.Range least greatest) = ⊥
FitsExtent names kind (extents.Set members) = All (IsKept names kind) members × (0 < length members) × (length members ≤ 4096)

-- the kind is there
abbrev pub FitsKind : List Enum → TypeKind → Type 0
FitsKind enums (kinds.Enum number) = HasEnum enums number
FitsKind enums kind = ⊤

-- the type means something
pub record Fits (names : List Declared) (enums : List Enum) (meaning : TypeMeaning) : Type 0 where
  pub kind : FitsKind enums meaning.kind
  pub extent : FitsExtent names meaning.kind meaning.extent

-- ---- distinct numbers

distinct_all : (P : ℤ → Type 0) (so_far numbers : List ℤ) → All P so_far → All P numbers → All P (distinct_from so_far numbers)
distinct_all P so_far [] old new = old
distinct_all P so_far (number ∷ numbers) old new =
    distinct_all P (with_number so_far number) numbers (by (has_number so_far number)) (All-tail P number numbers new)
  where
    by : (b : Bool) → All P (if b then so_far else so_far ++ number ∷ [])
    by true = old
    by false = All-append P so_far (number ∷ []) old (All-cons P number [] (All-head P number numbers new) (All-nil P))

with_some : (numbers : List ℤ) (number : ℤ) → 0 < length (with_number numbers number)
with_some numbers number = by numbers (has_number numbers number) refl
  where
    by : (numbers : List ℤ) (b : Bool) → has_number numbers number ≡ b → 0 < length (if b then numbers else numbers ++ number ∷ [])
    by [] true is = absurd (let e : false ≡ true = is in cc)
    by (x ∷ xs) true is = omega arith
    by xs false is = omega (arith, length-append xs (number ∷ []))

distinct_some : (so_far numbers : List ℤ) → 0 < length so_far → 0 < length (distinct_from so_far numbers)
distinct_some so_far [] some = some
distinct_some so_far (number ∷ numbers) some = distinct_some (with_number so_far number) numbers (with_some so_far number)

some_distinct : (numbers : List ℤ) → 0 < length numbers → 0 < length (distinct_from [] numbers)
some_distinct [] some = absurd (omega arith)
some_distinct (number ∷ numbers) some = distinct_some (with_number [] number) numbers (with_some [] number)

-- ---- ranges

in_order : (least greatest : ℤ) (b : Bool) → not (int_le least greatest && b) ≡ false → least ≤ℤ greatest
in_order least greatest b is = by (int_le least greatest) refl is
  where
    by : (test : Bool) → int_le least greatest ≡ test → not (test && b) ≡ false → least ≤ℤ greatest
    by true passes is = grind (arith, ints)
    by false fails is = absurd (let e : true ≡ false = is in cc)

-- of a kind that keeps values what is left between two ends fits
ends_fit : (names : List Declared) (kind : TypeKind) (extent : Extent) (at : ℕ) (least greatest : Value) → IsFineValue least → IsFineValue greatest
    → ((number : ℤ) → IsKept names kind number → IsValue number)
    → ((low high : ℤ) → AreEnds low high → FitsExtent names kind (extents.Range low high)) → ends_faults names kind extent 0 at least greatest ≡ []
    → FitsExtent names kind (extent_between (end_number names kind least) (end_number names kind greatest))
ends_fit names kind extent at least greatest one other value fits none = by (end_number names kind least) (end_number names kind greatest) refl refl
  where
    right : is_wrong_range extent (end_number names kind least) (end_number names kind greatest) ≡ false
    right =
        let wrong = is_wrong_range extent (end_number names kind least) (end_number names kind greatest) in
        let first = faults_here 0 at (fault_if wrong faults.NotInDomain) in
        let second = faults_here 0 (value_place least) (end_fault names kind least) in
        let third = faults_here 0 (value_place greatest) (end_fault names kind greatest) in
        not_so wrong faults.NotInDomain
        (no_fault 0 at (fault_if wrong faults.NotInDomain) (none_first first second (none_first (first ++ second) third none)))

    by : (low high : Option ℤ) → end_number names kind least ≡ low → end_number names kind greatest ≡ high
        → FitsExtent names kind (extent_between low high)
    by None high lower upper = tt
    by (Some low) None lower upper = tt
    by (Some low) (Some high) lower upper = fits low high (
      value low (own_kept names kind extents.Whole least low one lower),
      value high (own_kept names kind extents.Whole greatest high other upper),
      in_order low high (is_within extent low && is_within extent high) (sym (λ i. is_wrong_range extent (lower i) (upper i)) ∙ right),
    )

-- ---- sets

first_number : (names : List Declared) (kind : TypeKind) (extent : Extent) (values : List Value) → 0 < length values
    → All (λ value. faults_here 0 (value_place value) (member_fault names kind extent value) ≡ []) values
    → 0 < length (own_numbers names kind extent values)
first_number names kind extent [] some none = absurd (omega arith)
first_number names kind extent (value ∷ values) some none =
    let here = All-head (λ value. faults_here 0 (value_place value) (member_fault names kind extent value) ≡ []) value values none in
    let found = own_there names kind extent value (no_fault 0 (value_place value) (member_fault names kind extent value) here) in
    let P : Option ℤ → Type 0 = λ o. 0 < length (cons_option o (own_numbers names kind extent values)) in
    subst P (sym found.1) (omega arith)

-- no more than a set may have
pub few : (m : ℕ) → nat_lt 4096 m ≡ false → m ≤ 4096
few m is = grind arith

set_fits : (names : List Declared) (kind : TypeKind) (extent : Extent) (at : ℕ) (values : List Value) → 0 < length values → All IsFineValue values
    → set_faults names kind extent 0 at values ≡ []
    → FitsExtent names kind (extents.Set (distinct_from [] (own_numbers names kind extent values)))
set_fits names kind extent at values some fine none =
    let limit = faults_here 0 at (fault_if (has_too_many names kind extent values) faults.LimitMembers) in
    let each = none_flat (λ value. faults_here 0 (value_place value) (member_fault names kind extent value)) values
    (none_second limit (members_faults names kind extent 0 values) none) in
    let limited = no_fault 0 at (fault_if (has_too_many names kind extent values) faults.LimitMembers) (none_first limit (members_faults names kind extent 0 values) none) in
    let kept = all_kept (IsKept names kind) (own_number names kind extent) values
    (All-weaker IsFineValue (λ value. (number : ℤ) → own_number names kind extent value ≡ Some number → IsKept names kind number)
    (λ value right number is. own_kept names kind extent value number right is) values fine) in (
      distinct_all (IsKept names kind) [] (own_numbers names kind extent values) (All-nil (IsKept names kind)) kept,
      some_distinct (own_numbers names kind extent values) (first_number names kind extent values some each),
      few (length (distinct_from [] (own_numbers names kind extent values))) (not_so (has_too_many names kind extent values) faults.LimitMembers limited),
    )

-- ---- both

no_range : (names : List Declared) (least greatest : Value) → no_range_faults names 0 least greatest ≡ [] → ⊥
no_range names least greatest none =
    let one = faults_here 0 (value_place least) (value_fault names least) in
    let two = faults_here 0 (value_place least) (Some faults.WrongType) in
    let told : two ≡ [] = none_second one two (none_first (one ++ two) (faults_here 0 (value_place greatest) (value_fault names greatest)) none) in
    let e : Some faults.WrongType ≡ None = no_fault 0 (value_place least) (Some faults.WrongType) told in
    none-some faults.WrongType (sym e)

-- what bounds leave fits
pub bounds_fit : (names : List Declared) (kind : TypeKind) (extent : Extent) (bound : Bounds) → FitsExtent names kind extent → IsFineBounds bound
    → bounds_faults names kind extent 0 bound ≡ [] → FitsExtent names kind (bounds_extent names kind extent bound)
bounds_fit names kind extent bounds.All fit fine none = fit
bounds_fit names kind extent (bounds.Set at values) fit fine none = set_fits names kind extent at values fine.0 fine.1 none
bounds_fit names kinds.Int extents.Whole (bounds.Range at least greatest) fit fine none =
    ends_fit names kinds.Int extents.Whole at least greatest fine.0 fine.1 (λ number kept. kept) (λ low high ends. ends) none
bounds_fit names kinds.Int (extents.Range low high) (bounds.Range at least greatest) fit fine none =
    ends_fit names kinds.Int (extents.Range low high) at least greatest fine.0 fine.1 (λ number kept. kept) (λ low high ends. ends) none
bounds_fit names kinds.Int (extents.Set members) (bounds.Range at least greatest) fit fine none = absurd (no_range names least greatest none)
bounds_fit names kinds.Float extents.Whole (bounds.Range at least greatest) fit fine none =
    ends_fit names kinds.Float extents.Whole at least greatest fine.0 fine.1 (λ number kept. kept) (λ low high ends. ends) none
bounds_fit names kinds.Float (extents.Range low high) (bounds.Range at least greatest) fit fine none =
    ends_fit names kinds.Float (extents.Range low high) at least greatest fine.0 fine.1 (λ number kept. kept) (λ low high ends. ends) none
bounds_fit names kinds.Float (extents.Set members) (bounds.Range at least greatest) fit fine none = absurd (no_range names least greatest none)
bounds_fit names kinds.Bool extent (bounds.Range at least greatest) fit fine none = absurd (no_range names least greatest none)
bounds_fit names (kinds.Enum number) extent (bounds.Range at least greatest) fit fine none = absurd (no_range names least greatest none)
bounds_fit names (kinds.Object class) extent (bounds.Range at least greatest) fit fine none = absurd (no_range names least greatest none)
