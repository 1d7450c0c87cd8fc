-- Which values a formal and a field may have.
use Rattle.std.specs.Prelude.{Bool, true, false, ◌||◌, not, ℤ, pos, List, Option, Some, None, slice_get, if◌then◌else◌}
use Rattle.std.specs.Option.{option_and_then, option_map, option_map_or}
use Rattle.nddl_ast.specs.declared.expression.Type as types
use Rattle.nddl_typeexpr.specs.declared.kind.Extent.{Extent}
use Rattle.nddl_typeexpr.specs.declared.kind.Extent.TheVariants as extents
use Rattle.nddl_typeexpr.specs.declared.kind.TypeKind.{TypeKind}
use Rattle.nddl_typeexpr.specs.declared.kind.TypeKind.TheVariants as kinds
use Rattle.nddl_typeexpr.specs.declared.kind.TypeMeaning.{TypeMeaning}
use Rattle.nddl_typeexpr.specs.Kinds.{is_within}
use Rattle.nddl_typeexpr.specs.Types.{type_meaning}
use Rattle.nddl_constructors.specs.Creations.{is_of_class}
use Rattle.nddl_construction.specs.declared.made.Datum.{Datum}
use Rattle.nddl_construction.specs.declared.made.Datum.TheVariants as datums
use Rattle.nddl_construction.specs.declared.made.MadeObject.{MadeObject}
use Rattle.nddl_construction.specs.Scene.{Grounds}

-- ---- classes

-- the value is an object that isn't of the class of this kind
abbrev pub is_foreign_datum : Grounds → List MadeObject → Option TypeKind → Option Datum → Bool
is_foreign_datum grounds objects (Some (kinds.Object class)) (Some (datums.Object number)) =
    option_map_or (λ object. not (is_of_class grounds.facts class object.class)) (slice_get objects number) false
is_foreign_datum grounds objects kind datum = false

-- ---- types

-- The number that a written set has of a value: of an object that of the name under which it is declared, if it is.
abbrev pub datum_number : List MadeObject → Datum → Option ℤ
datum_number objects (datums.Number number) = Some number
datum_number objects (datums.Decimal thousandths) = Some thousandths
datum_number objects (datums.Truth truth) = Some (if truth then pos 1 else pos 0)
datum_number objects (datums.Member entry) = Some (pos entry)
datum_number objects (datums.Object number) =
    option_map pos (option_and_then (λ object. object.entry) (slice_get objects number))

-- its number is one of these
abbrev pub is_number_within : List MadeObject → Extent → Datum → Bool
is_number_within objects extent datum = option_map_or (is_within extent) (datum_number objects datum) false

-- the value is one of these
abbrev pub is_datum_within : List MadeObject → Extent → Datum → Bool
is_datum_within objects extents.Whole datum = true
is_datum_within objects extent datum = is_number_within objects extent datum

-- the value lies outside of what a type means
abbrev pub is_outside_meaning : Grounds → List MadeObject → Datum → TypeMeaning → Bool
is_outside_meaning grounds objects datum meaning =
    is_foreign_datum grounds objects (Some meaning.kind) (Some datum) || not (is_datum_within objects meaning.extent datum)

-- A value lies outside of a type. Of what is faulty nothing is said.
abbrev pub is_outside_type : Grounds → List MadeObject → types.Type → Option Datum → Bool
is_outside_type grounds objects type None = false
is_outside_type grounds objects type (Some datum) =
    option_map_or (is_outside_meaning grounds objects datum) (type_meaning grounds.facts.names grounds.facts.known type) false
