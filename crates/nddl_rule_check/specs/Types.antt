-- What is wrong with the types of locals, among whose values names mean what they mean everywhere in a rule.
use Rattle.std.specs.Prelude.{ℕ, Bool, ℤ, List, [], ◌++◌, Option, Some, None, if◌then◌else◌}
use Rattle.std.specs.List.{filter_map, flat_map}
use Rattle.std.specs.Option.{option_map_or, option_or}
use Rattle.nddl_ast.specs.declared.expression.Bounds.{Bounds}
use Rattle.nddl_ast.specs.declared.expression.Bounds.TheVariants as bounds
use Rattle.nddl_ast.specs.declared.expression.Type as types
use Rattle.nddl_ast.specs.declared.expression.Value.{Value}
use Rattle.nddl_ast.specs.declared.expression.Value.TheVariants as values
use Rattle.nddl_ast.specs.declared.kind.TextKind.{TextKind}
use Rattle.nddl_ast.specs.declared.kind.TextKind.TheVariants as faults
use Rattle.nddl_ast.specs.Places.{value_place}
use Rattle.nddl_symbols.specs.declared.fault.Fault.{Fault}
use Rattle.nddl_symbols.specs.Finding.{faults_here}
use Rattle.nddl_symbols.specs.Scope.{fault_if}
use Rattle.nddl_typeexpr.specs.declared.kind.Extent.{Extent}
use Rattle.nddl_typeexpr.specs.declared.kind.Extent.TheVariants as extents
use Rattle.nddl_typeexpr.specs.declared.kind.TypeKind.{TypeKind}
use Rattle.nddl_typeexpr.specs.declared.kind.TypeKind.TheVariants as kinds
use Rattle.nddl_typeexpr.specs.Bases.{base_extent, base_fault, base_kind}
use Rattle.nddl_typeexpr.specs.Bounds.{are_too_many, is_wrong_range}
use Rattle.nddl_typeexpr.specs.Kinds.{is_ranged}
use Rattle.nddl_typeexpr.specs.Values.{member_fault, own_number, value_fault}
use Rattle.nddl_hierarchy.specs.Ancestors.{is_foreign, is_outside}
use Rattle.nddl_hierarchy.specs.Facts.{Facts}
use Rattle.nddl_resolve.specs.declared.denoted.Denoted.{Denoted}
use Rattle.nddl_resolve.specs.declared.denoted.Denoted.TheVariants as denoted
use Rattle.nddl_resolve.specs.Paths.{Surroundings, near_denoted, own_denoted}

-- ---- names that aren't those of the files

-- what a value means by what stands around, or as a part of the token; the names of the files come after that
abbrev pub near_value : Facts → Surroundings → Value → Option Denoted
near_value facts around (values.Name name) = option_or (near_denoted around name.text) (own_denoted facts around name.text)
near_value facts around (values.Literal literal) = None

-- what is wrong with what is no value, or of no kind that may stand there: nothing is said of what hangs on something faulty
abbrev pub near_fault : Denoted → Option TextKind
near_fault denoted.Faulty = None
near_fault meant = Some faults.WrongType

-- What is wrong with a constant of the second kind in a set of the first: it is the variable of a `foreach`, so it is judged
-- by its class alone, whatever object it is in each turn.
abbrev pub turn_fault : Facts → TypeKind → TypeKind → Option TextKind
turn_fault facts (kinds.Object class) (kinds.Object of) =
    fault_if (is_outside facts.names facts.program facts.parents class (Some of)) faults.NotInDomain
turn_fault facts kind of = Some faults.WrongType

-- what is wrong with what means this as a member of a type of this kind; other variables aren't known
abbrev pub near_member_fault : Facts → TypeKind → Denoted → Option TextKind
near_member_fault facts kind (denoted.Value of constant) = if constant then turn_fault facts kind of else Some faults.WrongType
near_member_fault facts kind meant = near_fault meant

-- ---- values, which are names of the files if they mean nothing nearer

-- what is wrong with a value, of whatever kind it is
abbrev pub local_value_fault : Facts → Surroundings → Value → Option TextKind
local_value_fault facts around value = option_map_or (λ meant. None) (near_value facts around value) (value_fault facts.names value)

-- what is wrong with a value of a type of this kind as an object: it is of another class
abbrev pub object_faults : Facts → ℕ → TypeKind → Value → List Fault
object_faults facts decl (kinds.Object class) value =
    faults_here decl (value_place value)
    (fault_if (is_foreign facts.names facts.program facts.parents class value) faults.NotInDomain)
object_faults facts decl kind value = []

-- what is wrong with a value as a member of a type, if it is looked up in the files
abbrev pub file_member_faults : Facts → ℕ → TypeKind → Extent → Value → List Fault
file_member_faults facts decl kind extent value =
    faults_here decl (value_place value) (member_fault facts.names kind extent value) ++ object_faults facts decl kind value

-- what is wrong with a value as a member of a type
abbrev pub local_member_faults : Facts → Surroundings → ℕ → TypeKind → Extent → Value → List Fault
local_member_faults facts around decl kind extent value =
    option_map_or (λ meant. faults_here decl (value_place value) (near_member_fault facts kind meant))
    (near_value facts around value) (file_member_faults facts decl kind extent value)

-- the number of a value that may be a member of a type; the variable of a `foreach` has none that is known here
abbrev pub local_number : Facts → Surroundings → TypeKind → Extent → Value → Option ℤ
local_number facts around kind extent value =
    option_map_or (λ meant. None) (near_value facts around value) (own_number facts.names kind extent value)

-- ---- bounds

-- the ends are in the wrong order, or one of them lies outside
abbrev pub is_wrong_local : Facts → Surroundings → TypeKind → Extent → Value → Value → Bool
is_wrong_local facts around kind extent least greatest =
    is_wrong_range extent (local_number facts around kind extents.Whole least)
    (local_number facts around kind extents.Whole greatest)

-- What is wrong with a range behind a type that may have one. Each end is a value of its kind, which may lie anywhere.
abbrev pub local_ends_faults : Facts → Surroundings → TypeKind → Extent → ℕ → ℕ → Value → Value → List Fault
local_ends_faults facts around kind extent decl at least greatest =
    faults_here decl at (fault_if (is_wrong_local facts around kind extent least greatest) faults.NotInDomain)
    ++ (local_member_faults facts around decl kind extents.Whole least
    ++ local_member_faults facts around decl kind extents.Whole greatest)

-- what is wrong with a range behind another type
abbrev pub local_no_range_faults : Facts → Surroundings → ℕ → Value → Value → List Fault
local_no_range_faults facts around decl least greatest =
    faults_here decl (value_place least) (local_value_fault facts around least)
    ++ (faults_here decl (value_place least) (Some faults.WrongType)
    ++ faults_here decl (value_place greatest) (local_value_fault facts around greatest))

abbrev pub local_range_faults : Facts → Surroundings → TypeKind → Extent → ℕ → ℕ → Value → Value → List Fault
local_range_faults facts around kind extent decl at least greatest =
    if is_ranged kind extent then local_ends_faults facts around kind extent decl at least greatest
    else local_no_range_faults facts around decl least greatest

-- what is wrong with each value of a set
abbrev pub local_members_faults : Facts → Surroundings → TypeKind → Extent → ℕ → List Value → List Fault
local_members_faults facts around kind extent decl some = flat_map (local_member_faults facts around decl kind extent) some

abbrev pub local_numbers : Facts → Surroundings → TypeKind → Extent → List Value → List ℤ
local_numbers facts around kind extent some = filter_map (local_number facts around kind extent) some

abbrev pub local_set_faults : Facts → Surroundings → TypeKind → Extent → ℕ → ℕ → List Value → List Fault
local_set_faults facts around kind extent decl at some =
    faults_here decl at (fault_if (are_too_many (local_numbers facts around kind extent some)) faults.LimitMembers)
    ++ local_members_faults facts around kind extent decl some

-- what is wrong with the bounds behind a type of this kind that has these values
abbrev pub local_bounds_faults : Facts → Surroundings → TypeKind → Extent → ℕ → Bounds → List Fault
local_bounds_faults facts around kind extent decl bounds.All = []
local_bounds_faults facts around kind extent decl (bounds.Range at least greatest) =
    local_range_faults facts around kind extent decl at least greatest
local_bounds_faults facts around kind extent decl (bounds.Set at some) = local_set_faults facts around kind extent decl at some

-- ---- types

-- All that is wrong with the type of a local where names mean this. What stands before its bounds is looked up in the files;
-- behind a base that means nothing, which is wrong itself and stands before them, they aren't looked at.
unfoldable pub local_type_faults : Facts → Surroundings → ℕ → types.Type → List Fault
local_type_faults facts around decl type =
    faults_here decl type.at (base_fault facts.names type.base)
    ++ option_map_or
    (λ kind. local_bounds_faults facts around kind (base_extent facts.names facts.known type.base) decl type.bounds)
    (base_kind facts.names facts.known type.base) []
