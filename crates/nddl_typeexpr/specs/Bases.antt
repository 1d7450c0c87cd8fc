-- What types mean before their ranges and sets, and what is wrong there.
use Rattle.std.specs.Prelude.{ℕ, List, Option, Some, None, slice_get}
use Rattle.std.specs.Option.{option_map, option_map_or, option_and_then}
use Rattle.nddl_ast.specs.declared.kind.TextKind.{TextKind}
use Rattle.nddl_ast.specs.declared.kind.TextKind.TheVariants as faults
use Rattle.nddl_ast.specs.declared.expression.BaseType.{BaseType}
use Rattle.nddl_ast.specs.declared.expression.BaseType.TheVariants as bases
use Rattle.nddl_symbols.specs.declared.declared.Declared.{Declared}
use Rattle.nddl_symbols.specs.declared.declared.Sort.{Sort}
use Rattle.nddl_symbols.specs.declared.declared.Sort.TheVariants as sorts
use Rattle.nddl_symbols.specs.declared.scope.Meaning.{Meaning}
use Rattle.nddl_symbols.specs.declared.scope.Meaning.TheVariants as meanings
use Rattle.nddl_symbols.specs.Scope.{meaning_of}
use Rattle.nddl_typeexpr.specs.declared.kind.Extent.{Extent}
use Rattle.nddl_typeexpr.specs.declared.kind.Extent.TheVariants as extents
use Rattle.nddl_typeexpr.specs.declared.kind.TypeKind.{TypeKind}
use Rattle.nddl_typeexpr.specs.declared.kind.TypeKind.TheVariants as kinds
use Rattle.nddl_typeexpr.specs.declared.kind.TypeMeaning.{TypeMeaning}

-- What the typedefs mean is given as a list over all names of the scope, with nothing for each name that is no typedef or
-- means nothing.

-- what is wrong with a name of this sort as a type
abbrev pub sort_fault : Sort → Option TextKind
sort_fault (sorts.Enum number) = None
sort_fault sorts.Typedef = None
sort_fault sorts.Forward = None
sort_fault sorts.Body = None
sort_fault sort = Some faults.WrongType

-- what is wrong with the name of this number as a type
abbrev pub entry_fault : List Declared → ℕ → Option TextKind
entry_fault names entry = option_and_then (λ declared. sort_fault declared.sort) (slice_get names entry)

-- what is wrong with what a name means as a type
abbrev pub meaning_fault : List Declared → Option Meaning → Option TextKind
meaning_fault names None = Some faults.Unknown
meaning_fault names (Some (meanings.BuiltIn number)) = None
meaning_fault names (Some (meanings.Entry entry)) = entry_fault names entry

-- what is wrong with a base
abbrev pub base_fault : List Declared → BaseType → Option TextKind
base_fault names bases.Int = None
base_fault names bases.Float = None
base_fault names bases.Bool = None
base_fault names bases.Str = Some faults.WrongType
base_fault names (bases.Named name) = meaning_fault names (meaning_of names name.text)

-- what the typedef of this number means
abbrev pub typedef_meaning : List (Option TypeMeaning) → ℕ → Option TypeMeaning
typedef_meaning known entry = option_and_then (λ meaning. meaning) (slice_get known entry)

-- of what the values of the type are that is the name of this number and sort
abbrev pub sort_kind : List (Option TypeMeaning) → ℕ → Sort → Option TypeKind
sort_kind known entry (sorts.Enum number) = Some (kinds.Enum number)
sort_kind known entry sorts.Typedef = option_map (λ meaning. meaning.kind) (typedef_meaning known entry)
sort_kind known entry sorts.Forward = Some (kinds.Object (meanings.Entry entry))
sort_kind known entry sorts.Body = Some (kinds.Object (meanings.Entry entry))
sort_kind known entry sort = None

abbrev pub entry_kind : List Declared → List (Option TypeMeaning) → ℕ → Option TypeKind
entry_kind names known entry = option_and_then (λ declared. sort_kind known entry declared.sort) (slice_get names entry)

abbrev pub meaning_kind : List Declared → List (Option TypeMeaning) → Meaning → Option TypeKind
meaning_kind names known (meanings.BuiltIn number) = Some (kinds.Object (meanings.BuiltIn number))
meaning_kind names known (meanings.Entry entry) = entry_kind names known entry

-- of what the values of a base are, if it means something
abbrev pub base_kind : List Declared → List (Option TypeMeaning) → BaseType → Option TypeKind
base_kind names known bases.Int = Some kinds.Int
base_kind names known bases.Float = Some kinds.Float
base_kind names known bases.Bool = Some kinds.Bool
base_kind names known bases.Str = None
base_kind names known (bases.Named name) = option_and_then (meaning_kind names known) (meaning_of names name.text)

-- the values of a typedef, or all
abbrev pub entry_extent : List (Option TypeMeaning) → ℕ → Extent
entry_extent known entry = option_map_or (λ meaning. meaning.extent) (typedef_meaning known entry) extents.Whole

abbrev pub meaning_extent : List (Option TypeMeaning) → Option Meaning → Extent
meaning_extent known (Some (meanings.Entry entry)) = entry_extent known entry
meaning_extent known meaning = extents.Whole

-- which values a base has
abbrev pub base_extent : List Declared → List (Option TypeMeaning) → BaseType → Extent
base_extent names known (bases.Named name) = meaning_extent known (meaning_of names name.text)
base_extent names known base = extents.Whole
