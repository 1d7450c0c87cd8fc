-- What types mean, and what is wrong with one.
use Rattle.std.specs.Prelude.{ℕ, Bool, true, false, List, [], ◌∷◌, ◌++◌, Option, None, if◌then◌else◌}
use Rattle.std.specs.Option.{option_map, option_map_or}
use Rattle.nddl_ast.specs.declared.expression.Type as types
use Rattle.nddl_symbols.specs.declared.declared.Declared.{Declared}
use Rattle.nddl_symbols.specs.declared.fault.Fault.{Fault}
use Rattle.nddl_symbols.specs.Finding.{faults_here}
use Rattle.nddl_typeexpr.specs.declared.kind.TypeMeaning.{TypeMeaning}
use Rattle.nddl_typeexpr.specs.Bases.{base_extent, base_fault, base_kind}
use Rattle.nddl_typeexpr.specs.Bounds.{bounds_extent, bounds_faults, missing_faults}

-- All that is wrong with the type in the declaration of this number. Behind a base that means nothing the values of a
-- range or a set are judged by themselves.
abbrev pub type_faults : List Declared → List (Option TypeMeaning) → ℕ → types.Type → List Fault
type_faults names known decl type =
    faults_here decl type.at (base_fault names type.base)
    ++ option_map_or (λ kind. bounds_faults names kind (base_extent names known type.base) decl type.bounds)
    (base_kind names known type.base) (missing_faults names decl type.bounds)

-- nothing is wrong
abbrev pub is_fine : List Fault → Bool
is_fine [] = true
is_fine (fault ∷ faults) = false

-- what the type means if nothing is wrong with it
abbrev pub bounded_meaning : List Declared → List (Option TypeMeaning) → types.Type → Option TypeMeaning
bounded_meaning names known type =
    option_map
    (λ kind. record { kind = kind; extent = bounds_extent names kind (base_extent names known type.base) type.bounds })
    (base_kind names known type.base)

-- What the type means: something where nothing is wrong with it, and it stands on nothing that is wrong.
abbrev pub type_meaning : List Declared → List (Option TypeMeaning) → types.Type → Option TypeMeaning
type_meaning names known type =
    if is_fine (type_faults names known 0 type) then bounded_meaning names known type else None
