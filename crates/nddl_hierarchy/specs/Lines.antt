-- What the names of a program stand under: a class under the one that it extends, a typedef under the one that it restricts.
use Rattle.std.specs.Prelude.{ℕ, ◌+◌, Bool, true, false, List, [], ◌∷◌, ◌++◌, Option, Some, None, slice_get, length, map}
use Rattle.std.specs.Prelude.{if◌then◌else◌}
use Rattle.std.specs.Option.{option_map, option_and_then}
use Rattle.eu_forest.specs.declared.lineage.Rootedness.{Rootedness}
use Rattle.eu_forest.specs.declared.lineage.Rootedness.TheVariants as how
use Rattle.eu_forest.specs.declared.walk.Mark.{Mark}
use Rattle.eu_forest.specs.Lines.{rootedness_in}
use Rattle.nddl_ast.specs.declared.declaration.Decl.{Decl}
use Rattle.nddl_ast.specs.declared.expression.BaseType.{BaseType}
use Rattle.nddl_ast.specs.declared.expression.BaseType.TheVariants as bases
use Rattle.nddl_ast.specs.declared.kind.TextKind.TheVariants as faults
use Rattle.nddl_ast.specs.declared.name.Name.{Name}
use Rattle.nddl_symbols.specs.declared.place.Place.{Place}
use Rattle.nddl_symbols.specs.declared.declared.Declared.{Declared}
use Rattle.nddl_symbols.specs.declared.declared.Sort.{Sort}
use Rattle.nddl_symbols.specs.declared.declared.Sort.TheVariants as sorts
use Rattle.nddl_symbols.specs.declared.fault.Fault.{Fault}
use Rattle.nddl_symbols.specs.declared.scope.Meaning.{Meaning}
use Rattle.nddl_symbols.specs.declared.scope.Meaning.TheVariants as meanings
use Rattle.nddl_symbols.specs.Finding.{faults_here}
use Rattle.nddl_symbols.specs.Names.{is_class_sort}
use Rattle.nddl_symbols.specs.Scope.{is_class_at, meaning_of, named_number}
use Rattle.nddl_hierarchy.specs.Decls.{class_parent, typedef_type, decl_of_name, declaration_with_body}

-- Names stand for what is declared first under them. One thing more, nowhere, has the number behind theirs and stands under
-- itself: a class stands under it whose parent isn't there or is no class, so that it is known as one that leads up to
-- nothing.

-- what a class stands under that extends what means this
abbrev pub under_meaning : List Declared → Option Meaning → Option ℕ
under_meaning names None = Some (length names)
under_meaning names (Some (meanings.BuiltIn number)) = None
under_meaning names (Some (meanings.Entry entry)) = if is_class_at names entry then Some entry else Some (length names)

-- what a class stands under that extends this
abbrev pub class_under : List Declared → Name → Option ℕ
class_under names name = under_meaning names (meaning_of names name.text)

abbrev pub is_typedef_sort : Sort → Bool
is_typedef_sort sorts.Typedef = true
is_typedef_sort sort = false

-- the name of this number, if it is a typedef
abbrev pub typedef_at : List Declared → ℕ → Option ℕ
typedef_at names entry =
    option_and_then (λ declared. if is_typedef_sort declared.sort then Some entry else None) (slice_get names entry)

abbrev pub typedef_of_meaning : List Declared → Option Meaning → Option ℕ
typedef_of_meaning names (Some (meanings.Entry entry)) = typedef_at names entry
typedef_of_meaning names meaning = None

-- the typedef that a base names
abbrev pub base_under : List Declared → BaseType → Option ℕ
base_under names (bases.Named name) = typedef_of_meaning names (meaning_of names name.text)
base_under names base = None

-- what a name of this sort stands under
abbrev pub sort_under : List Declared → List Decl → Declared → Sort → Option ℕ
sort_under names program declared sorts.Typedef =
    option_and_then (λ type. base_under names type.base) (option_and_then typedef_type (decl_of_name program declared))
sort_under names program declared sorts.Forward =
    option_and_then (class_under names) (option_and_then class_parent (declaration_with_body names program declared))
sort_under names program declared sorts.Body =
    option_and_then (class_under names) (option_and_then class_parent (declaration_with_body names program declared))
sort_under names program declared sort = None

-- what each name stands under, and at the end nowhere
abbrev pub parents_of : List Declared → List Decl → List (Option ℕ)
parents_of names program =
    map (λ declared. sort_under names program declared declared.sort) names ++ Some (length names) ∷ []

-- ---- what stands on a circle

abbrev pub is_circle : Option Rootedness → Bool
is_circle (Some how.OnCircle) = true
is_circle rootedness = false

abbrev pub is_rooted : Option Rootedness → Bool
is_rooted (Some how.Rooted) = true
is_rooted rootedness = false

-- where a class or a typedef is declared: a class with its members
abbrev pub declared_place : List Declared → Declared → Option Place
declared_place names declared =
    if is_class_sort declared.sort
    then option_and_then (λ body. option_map (λ other. other.place) (slice_get names body)) (named_number true names declared.name)
    else Some declared.place

-- it is its own ancestor
abbrev pub circle_fault : Option Place → Bool → List Fault
circle_fault (Some place) true = faults_here place.decl place.at (Some faults.WrongType)
circle_fault place circle = []

-- what is wrong with these of the names, of which the first has this number, where what all stand under has these marks
abbrev pub circle_faults : List Declared → List Mark → ℕ → List Declared → List Fault
circle_faults names marked number [] = []
circle_faults names marked number (declared ∷ more) =
    circle_fault (declared_place names declared) (is_circle (rootedness_in marked number))
    ++ circle_faults names marked (number + 1) more
