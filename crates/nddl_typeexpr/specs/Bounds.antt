-- What ranges and sets of types mean, and what is wrong with them.
use Rattle.std.specs.Prelude.{ℕ, Bool, false, ◌&&◌, not, nat_lt, ℤ, int_le, List, [], ◌∷◌, ◌++◌, length, Option, Some}
use Rattle.std.specs.Prelude.{if◌then◌else◌}
use Rattle.std.specs.List.{flat_map, filter_map}
use Rattle.nddl_ast.specs.declared.kind.TextKind.TheVariants as faults
use Rattle.nddl_ast.specs.declared.expression.Bounds.{Bounds}
use Rattle.nddl_ast.specs.declared.expression.Bounds.TheVariants as bounds
use Rattle.nddl_ast.specs.declared.expression.Value.{Value}
use Rattle.nddl_ast.specs.Places.{value_place}
use Rattle.nddl_symbols.specs.declared.declared.Declared.{Declared}
use Rattle.nddl_symbols.specs.declared.fault.Fault.{Fault}
use Rattle.nddl_symbols.specs.Finding.{faults_here}
use Rattle.nddl_symbols.specs.Scope.{fault_if}
use Rattle.nddl_typeexpr.specs.declared.kind.Extent.{Extent}
use Rattle.nddl_typeexpr.specs.declared.kind.Extent.TheVariants as extents
use Rattle.nddl_typeexpr.specs.declared.kind.TypeKind.{TypeKind}
use Rattle.nddl_typeexpr.specs.Kinds.{is_ranged, is_within}
use Rattle.nddl_typeexpr.specs.Members.{distinct_from}
use Rattle.nddl_typeexpr.specs.Values.{end_fault, end_number, member_fault, own_number, value_fault}

-- ---- ranges

-- two ends are in the wrong order, or one of them lies outside
abbrev pub is_wrong_range : Extent → Option ℤ → Option ℤ → Bool
is_wrong_range extent (Some least) (Some greatest) =
    not (int_le least greatest && (is_within extent least && is_within extent greatest))
is_wrong_range extent least greatest = false

-- what is wrong with a range behind a type that may have one
abbrev pub ends_faults : List Declared → TypeKind → Extent → ℕ → ℕ → Value → Value → List Fault
ends_faults names kind extent decl at least greatest =
    faults_here decl at
    (fault_if (is_wrong_range extent (end_number names kind least) (end_number names kind greatest)) faults.NotInDomain)
    ++ faults_here decl (value_place least) (end_fault names kind least)
    ++ faults_here decl (value_place greatest) (end_fault names kind greatest)

-- what is wrong with a range behind another type
abbrev pub no_range_faults : List Declared → ℕ → Value → Value → List Fault
no_range_faults names decl least greatest =
    faults_here decl (value_place least) (value_fault names least)
    ++ faults_here decl (value_place least) (Some faults.WrongType)
    ++ faults_here decl (value_place greatest) (value_fault names greatest)

abbrev pub range_faults : List Declared → TypeKind → Extent → ℕ → ℕ → Value → Value → List Fault
range_faults names kind extent decl at least greatest =
    if is_ranged kind extent then ends_faults names kind extent decl at least greatest
    else no_range_faults names decl least greatest

-- the range between two numbers
abbrev pub extent_between : Option ℤ → Option ℤ → Extent
extent_between (Some least) (Some greatest) = extents.Range least greatest
extent_between least greatest = extents.Whole

-- ---- sets

-- what is wrong with each value of a set
abbrev pub members_faults : List Declared → TypeKind → Extent → ℕ → List Value → List Fault
members_faults names kind extent decl values =
    flat_map (λ value. faults_here decl (value_place value) (member_fault names kind extent value)) values

-- the numbers of the values that may be members
abbrev pub own_numbers : List Declared → TypeKind → Extent → List Value → List ℤ
own_numbers names kind extent values = filter_map (own_number names kind extent) values

-- more than 4,096 of these are distinct
abbrev pub are_too_many : List ℤ → Bool
are_too_many numbers = nat_lt 4096 (length (distinct_from [] numbers))

-- more than 4,096 distinct values may be members
abbrev pub has_too_many : List Declared → TypeKind → Extent → List Value → Bool
has_too_many names kind extent values = are_too_many (own_numbers names kind extent values)

abbrev pub set_faults : List Declared → TypeKind → Extent → ℕ → ℕ → List Value → List Fault
set_faults names kind extent decl at values =
    faults_here decl at (fault_if (has_too_many names kind extent values) faults.LimitMembers)
    ++ members_faults names kind extent decl values

-- ---- behind a base that means nothing

-- the values that are written in bounds
abbrev pub bounds_values : Bounds → List Value
bounds_values bounds.All = []
bounds_values (bounds.Range at least greatest) = least ∷ greatest ∷ []
bounds_values (bounds.Set at values) = values

-- what is wrong with each of the values, of whatever kind they are
abbrev pub values_faults : List Declared → ℕ → List Value → List Fault
values_faults names decl values =
    flat_map (λ value. faults_here decl (value_place value) (value_fault names value)) values

-- What is wrong with bounds behind a base that means nothing. No value is of the wrong kind there, and there may be any
-- number of them.
abbrev pub missing_faults : List Declared → ℕ → Bounds → List Fault
missing_faults names decl bound = values_faults names decl (bounds_values bound)

-- ---- both

-- what is wrong with the bounds behind a type of this kind that has these values
abbrev pub bounds_faults : List Declared → TypeKind → Extent → ℕ → Bounds → List Fault
bounds_faults names kind extent decl bounds.All = []
bounds_faults names kind extent decl (bounds.Range at least greatest) =
    range_faults names kind extent decl at least greatest
bounds_faults names kind extent decl (bounds.Set at values) = set_faults names kind extent decl at values

-- which values are left by the bounds
abbrev pub bounds_extent : List Declared → TypeKind → Extent → Bounds → Extent
bounds_extent names kind extent bounds.All = extent
bounds_extent names kind extent (bounds.Range at least greatest) =
    extent_between (end_number names kind least) (end_number names kind greatest)
bounds_extent names kind extent (bounds.Set at values) =
    extents.Set (distinct_from [] (own_numbers names kind extent values))
