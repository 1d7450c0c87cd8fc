-- What names mean in the scope of a program's files.
use Rattle.std.specs.Prelude.{ℕ, ◌+◌, ◌==◌, Bool, true, false, ◌||◌, ◌&&◌, not, List, [], ◌∷◌}
use Rattle.std.specs.Prelude.{◌++◌, Option, Some, None}
use Rattle.std.specs.List.{slice_get, position_from}
use Rattle.std.specs.Option.{option_map, option_map_or, option_or}
use Rattle.std.specs.Str.{bytes_eq}
use Rattle.nddl_ast.specs.declared.kind.TextKind.{TextKind}
use Rattle.nddl_ast.specs.declared.kind.TextKind.TheVariants as kinds
use Rattle.nddl_symbols.specs.declared.declared.Declared.{Declared}
use Rattle.nddl_symbols.specs.declared.fault.Fault.{Fault}
use Rattle.nddl_symbols.specs.declared.scope.Meaning.{Meaning}
use Rattle.nddl_symbols.specs.declared.scope.Meaning.TheVariants as meanings
use Rattle.nddl_symbols.specs.Builtin.{builtin_class_names, is_builtin_name}
use Rattle.nddl_symbols.specs.Finding.{faults_here}
use Rattle.eu_index.specs.Index.{HasFirsts, Noted, NotesFirst}
use Rattle.nddl_symbols.specs.Names.{is_class_sort, is_body_sort, is_config_sort}

-- the name is this one and, if bodies alone count, that of a class with its members
abbrev pub is_named : Bool → List ℕ → Declared → Bool
is_named only_bodies name declared = (not only_bodies || is_body_sort declared.sort) && bytes_eq name declared.name

-- the number of the first that has the name, among those that count
abbrev pub named_number : Bool → List Declared → List ℕ → Option ℕ
named_number only_bodies names name = position_from (is_named only_bodies name) 0 names

-- the number of the built-in class of this name
abbrev pub builtin_number : List ℕ → Option ℕ
builtin_number name = position_from (bytes_eq name) 0 builtin_class_names

-- what the name means: a built-in class, or what is declared first under it
abbrev pub meaning_of : List Declared → List ℕ → Option Meaning
meaning_of names name =
    option_or (option_map meanings.BuiltIn (builtin_number name))
    (option_map meanings.Entry (named_number false names name))

-- the index has of each name the number of the first that has it, among those that count
abbrev pub IsIndexed : Bool → List Declared → Noted → Type 0
IsIndexed only_bodies = HasFirsts (is_named only_bodies)

-- what the index has of each name is what it had, or else the number of this one, if it counts and has the name
abbrev pub NotesListed : Bool → ℕ → Declared → Noted → Noted → Type 0
NotesListed only_bodies = NotesFirst (is_named only_bodies)

-- ---- names that are declared a second time

abbrev pub is_class_at : List Declared → ℕ → Bool
is_class_at names number = option_map_or (λ other. is_class_sort other.sort) (slice_get names number) false

-- there is a first one, and it is another
abbrev pub is_another : Option ℕ → ℕ → Bool
is_another first number = option_map_or (λ other. not (other == number)) first false

-- another name is the first of this spelling, and the two aren't both classes
abbrev pub is_repeated : List Declared → ℕ → Declared → Bool
is_repeated names number declared =
    option_map_or (λ first. not (first == number) && not (is_class_sort declared.sort && is_class_at names first))
    (named_number false names declared.name) false

-- the class has its members already
abbrev pub is_second_body : List Declared → ℕ → Declared → Bool
is_second_body names number declared =
    is_body_sort declared.sort && is_another (named_number true names declared.name) number

-- the number of the first settings of a search
abbrev pub config_number : List Declared → Option ℕ
config_number names = position_from (λ declared. is_config_sort declared.sort) 0 names

-- there are settings of a search already
abbrev pub is_second_config : List Declared → ℕ → Declared → Bool
is_second_config names number declared = is_config_sort declared.sort && is_another (config_number names) number

-- The name is declared already, or is the language's own. A class may be named before and after its body.
abbrev pub is_second_name : List Declared → ℕ → Declared → Bool
is_second_name names number declared =
    is_builtin_name declared.name || (is_repeated names number declared
    || (is_second_body names number declared || is_second_config names number declared))

-- a fault of the kind, if there is one
abbrev pub fault_if : Bool → TextKind → Option TextKind
fault_if true kind = Some kind
fault_if false kind = None

-- what is wrong with the name of this number
abbrev pub second_name_fault : List Declared → ℕ → Declared → List Fault
second_name_fault names number declared =
    faults_here declared.place.decl declared.place.at (fault_if (is_second_name names number declared) kinds.Twice)

-- what is wrong with these of the names, the first of which has this number
abbrev pub second_name_faults : List Declared → ℕ → List Declared → List Fault
second_name_faults names number [] = []
second_name_faults names number (declared ∷ more) =
    second_name_fault names number declared ++ second_name_faults names (number + 1) more
