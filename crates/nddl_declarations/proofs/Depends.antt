-- What a type means depends on one typedef alone: the one that its base names.
use Rattle.std.proofs.Common.{◌≡◌, ℕ, ◌++◌, List, refl, ap}
use Rattle.std.specs.Prelude.{Option, Some, None, slice_get, if◌then◌else◌}
use Rattle.std.specs.Option.{option_and_then, option_map, option_map_or}
use Rattle.nddl_ast.specs.declared.expression.BaseType.{BaseType}
use Rattle.nddl_ast.specs.declared.expression.BaseType.TheVariants as bases
use Rattle.nddl_ast.specs.declared.expression.Type as types
use Rattle.nddl_symbols.specs.declared.declared.Declared.{Declared}
use Rattle.nddl_symbols.specs.declared.declared.Sort.{Sort}
use Rattle.nddl_symbols.specs.declared.declared.Sort.TheVariants as sorts
use Rattle.nddl_symbols.specs.declared.scope.Meaning.{Meaning}
use Rattle.nddl_symbols.specs.declared.scope.Meaning.TheVariants as meanings
use Rattle.nddl_symbols.specs.Finding.{faults_here}
use Rattle.nddl_symbols.specs.Scope.{meaning_of}
use Rattle.nddl_typeexpr.specs.declared.kind.Extent.{Extent}
use Rattle.nddl_typeexpr.specs.declared.kind.Extent.TheVariants as extents
use Rattle.nddl_typeexpr.specs.declared.kind.TypeKind.{TypeKind}
use Rattle.nddl_typeexpr.specs.declared.kind.TypeMeaning.{TypeMeaning}
use Rattle.nddl_typeexpr.specs.Bases.{base_extent, base_fault, base_kind, meaning_extent, meaning_kind, sort_kind}
use Rattle.nddl_typeexpr.specs.Bounds.{bounds_extent, bounds_faults, missing_faults}
use Rattle.nddl_typeexpr.specs.Types.{is_fine}
use Rattle.nddl_hierarchy.specs.Ancestors.{objects_faults}
use Rattle.nddl_hierarchy.specs.Facts.{Facts}
use Rattle.nddl_declarations.specs.Known.{all_type_faults, fine_meaning}

-- the same is known of the name, if the meaning is one
abbrev pub AgreesAt : List (Option TypeMeaning) → List (Option TypeMeaning) → Option Meaning → Type 0
AgreesAt known other None = Unit {0}
AgreesAt known other (Some (meanings.BuiltIn number)) = Unit {0}
AgreesAt known other (Some (meanings.Entry entry)) = slice_get known entry ≡ slice_get other entry

sort_same : (known other : List (Option TypeMeaning)) (entry : ℕ) → slice_get known entry ≡ slice_get other entry → (sort : Sort)
    → sort_kind known entry sort ≡ sort_kind other entry sort
sort_same known other entry same (sorts.Enum number) = refl
sort_same known other entry same sorts.Typedef =
    ap (λ slot. option_map (λ (meaning : TypeMeaning). meaning.kind) (option_and_then (λ (meaning : Option TypeMeaning). meaning) slot)) same
sort_same known other entry same sorts.Forward = refl
sort_same known other entry same sorts.Body = refl
sort_same known other entry same (sorts.Member of place) = refl
sort_same known other entry same sorts.Global = refl
sort_same known other entry same sorts.Object = refl
sort_same known other entry same sorts.Root = refl
sort_same known other entry same sorts.Config = refl

declared_same : (known other : List (Option TypeMeaning)) (entry : ℕ) → slice_get known entry ≡ slice_get other entry → (o : Option Declared)
    → option_and_then (λ (declared : Declared). sort_kind known entry declared.sort) o ≡ option_and_then (λ (declared : Declared). sort_kind other entry declared.sort) o
declared_same known other entry same None = refl
declared_same known other entry same (Some declared) = sort_same known other entry same declared.sort

kind_same : (names : List Declared) (known other : List (Option TypeMeaning)) (meaning : Option Meaning) → AgreesAt known other meaning
    → option_and_then (meaning_kind names known) meaning ≡ option_and_then (meaning_kind names other) meaning
kind_same names known other None agrees = refl
kind_same names known other (Some (meanings.BuiltIn number)) agrees = refl
kind_same names known other (Some (meanings.Entry entry)) agrees = declared_same known other entry agrees (slice_get names entry)

extent_same : (known other : List (Option TypeMeaning)) (meaning : Option Meaning) → AgreesAt known other meaning
    → meaning_extent known meaning ≡ meaning_extent other meaning
extent_same known other None agrees = refl
extent_same known other (Some (meanings.BuiltIn number)) agrees = refl
extent_same known other (Some (meanings.Entry entry)) agrees =
    ap (λ slot. option_map_or (λ (meaning : TypeMeaning). meaning.extent) (option_and_then (λ (meaning : Option TypeMeaning). meaning) slot) extents.Whole) agrees

-- what a base names
abbrev pub named_by : List Declared → BaseType → Option Meaning
named_by names (bases.Named name) = meaning_of names name.text
named_by names base = None

base_kind_same : (names : List Declared) (known other : List (Option TypeMeaning)) (base : BaseType) → AgreesAt known other (named_by names base)
    → base_kind names known base ≡ base_kind names other base
base_kind_same names known other (bases.Named name) agrees = kind_same names known other (meaning_of names name.text) agrees
base_kind_same names known other bases.Int agrees = refl
base_kind_same names known other bases.Float agrees = refl
base_kind_same names known other bases.Bool agrees = refl
base_kind_same names known other bases.Str agrees = refl

base_extent_same : (names : List Declared) (known other : List (Option TypeMeaning)) (base : BaseType) → AgreesAt known other (named_by names base)
    → base_extent names known base ≡ base_extent names other base
base_extent_same names known other (bases.Named name) agrees = extent_same known other (meaning_of names name.text) agrees
base_extent_same names known other bases.Int agrees = refl
base_extent_same names known other bases.Float agrees = refl
base_extent_same names known other bases.Bool agrees = refl
base_extent_same names known other bases.Str agrees = refl

-- the facts with other knowledge
abbrev pub with_known : Facts → List (Option TypeMeaning) → Facts
with_known facts known =
    record { names = facts.names; program = facts.program; parents = facts.parents; marked = facts.marked; known = known }

-- the meaning by the kind and the values of the base
abbrev by_base : Facts → types.Type → Option TypeKind → Extent → Option TypeMeaning
by_base facts type kind extent =
    let faults = faults_here 0 type.at (base_fault facts.names type.base)
    ++ option_map_or (λ (found : TypeKind). bounds_faults facts.names found extent 0 type.bounds) kind (missing_faults facts.names 0 type.bounds) in
    if is_fine (faults ++ objects_faults facts.names facts.program facts.parents 0 kind type.bounds)
    then (if is_fine faults
    then option_map (λ (found : TypeKind). record { kind = found; extent = bounds_extent facts.names found extent type.bounds }) kind
    else None)
    else None

pub fine_same : (facts : Facts) (known other : List (Option TypeMeaning)) (type : types.Type) → AgreesAt known other (named_by facts.names type.base)
    → fine_meaning (with_known facts known) type ≡ fine_meaning (with_known facts other) type
unfolding all_type_faults
fine_same facts known other type agrees = λ i.
    by_base facts type (base_kind_same facts.names known other type.base agrees i) (base_extent_same facts.names known other type.base agrees i)
