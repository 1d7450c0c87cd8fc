-- What the values of a type are as a domain: those of an enum are the places of its members.
use Rattle.std.specs.Prelude.{ℕ, ℤ, pos, negsuc, List, [], ◌∷◌, Option, Some, None, length, map, slice_get}
use Rattle.std.specs.List.{filter_map, range_with_len}
use Rattle.std.specs.Option.{option_and_then, option_map_or}
use Rattle.domain_core.specs.Domain.{Domain, Range, Set}
use Rattle.model_core.specs.declared.class.Enum.{Enum}
use Rattle.model_core.specs.declared.variable.Base.{Base}
use Rattle.model_core.specs.declared.variable.Base.TheVariants as bases
use Rattle.model_core.specs.declared.variable.ValueKind.{ValueKind}
use Rattle.model_core.specs.declared.variable.ValueKind.TheVariants as values
use Rattle.nddl_symbols.specs.declared.declared.Declared.{Declared}
use Rattle.nddl_symbols.specs.declared.declared.Sort.{Sort}
use Rattle.nddl_symbols.specs.declared.declared.Sort.TheVariants as sorts
use Rattle.nddl_typeexpr.specs.declared.kind.Extent.{Extent}
use Rattle.nddl_typeexpr.specs.declared.kind.Extent.TheVariants as extents
use Rattle.nddl_typeexpr.specs.declared.kind.TypeKind.{TypeKind}
use Rattle.nddl_typeexpr.specs.declared.kind.TypeKind.TheVariants as kinds
use Rattle.nddl_declarations.specs.Ascending.{ascending_of}

-- what the values of a type of this kind are
abbrev pub value_kind : TypeKind → ValueKind
value_kind kinds.Int = values.Int
value_kind kinds.Float = values.Float
value_kind kinds.Bool = values.Bool
value_kind (kinds.Enum number) = values.Enum number
value_kind (kinds.Object class) = values.Object

-- how many members the enum of this number has
abbrev pub enum_size : List Enum → ℕ → ℕ
enum_size enums number = option_map_or (λ found. length found.members) (slice_get enums number) 0

-- the place of a name of this sort in its enum
abbrev pub place_of_sort : Sort → Option ℤ
place_of_sort (sorts.Member of place) = Some (pos place)
place_of_sort sort = None

-- the place in its enum of the member whose name in the scope has this number
abbrev pub place_of_member : List Declared → ℤ → Option ℤ
place_of_member names (pos entry) = option_and_then (λ declared. place_of_sort declared.sort) (slice_get names entry)
place_of_member names (negsuc number) = None

-- the values of a type that isn't a range, listed
abbrev pub listed_values : List Declared → List Enum → TypeKind → Extent → List ℤ
listed_values names enums kinds.Bool extents.Whole = pos 0 ∷ pos 1 ∷ []
listed_values names enums (kinds.Enum number) extents.Whole = map pos (range_with_len 0 (enum_size enums number))
listed_values names enums (kinds.Enum number) (extents.Set members) = filter_map (place_of_member names) members
listed_values names enums kind (extents.Set members) = members
listed_values names enums kind extent = []

-- the domain of a type: a range where it is one, else a set. All decimals are as many thousandths as there are numbers.
abbrev pub type_domain : List Declared → List Enum → TypeKind → Extent → Domain
type_domain names enums kinds.Int extents.Whole = Range (negsuc 999999) (pos 1000000)
type_domain names enums kinds.Int (extents.Range least greatest) = Range least greatest
type_domain names enums kinds.Float extents.Whole = Range (negsuc 999999) (pos 1000000)
type_domain names enums kinds.Float (extents.Range least greatest) = Range least greatest
type_domain names enums kind extent = Set (ascending_of (listed_values names enums kind extent))

-- what a variable of this type may be; no object has been made yet
abbrev pub base_of : List Declared → List Enum → TypeKind → Extent → Base
base_of names enums (kinds.Object class) extent = bases.Void
base_of names enums kind extent = bases.Given (type_domain names enums kind extent)

-- a variable may be these, or nothing where there are none
abbrev pub numbers_base : List ℤ → Base
numbers_base [] = bases.Void
numbers_base (number ∷ more) = bases.Given (Set (ascending_of (number ∷ more)))
