-- The objects of each class, listed once.
use Rattle.std.specs.Prelude.{◌≡◌, ℕ, ◌+◌, ◌-◌, ◌<◌, ◌==◌, ◌&&◌, ℤ, pos, Bool, false, List, [], ◌∷◌, ◌++◌, Option, Some, None, map}
use Rattle.std.specs.Prelude.{nat_le, nat_lt, slice_get, true}
use Rattle.std.specs.Option.{option_map_or}
use Rattle.eu_forest.specs.Shortcuts.{EndsAt}
use Rattle.nddl_symbols.specs.declared.scope.Meaning.{Meaning}
use Rattle.nddl_symbols.specs.declared.scope.Meaning.TheVariants as meanings
use Rattle.nddl_symbols.specs.Scope.{is_class_at}
use Rattle.nddl_hierarchy.specs.Facts.{Facts}
use Rattle.nddl_types.specs.Classes.{class_entries}
use Rattle.nddl_construction.specs.declared.made.MadeObject.{MadeObject}
use Rattle.nddl_env.specs.Objects.{objects_of}

-- the objects of a class and of those under it, as values
abbrev pub class_population : Facts → List MadeObject → Meaning → List ℤ
class_population facts objects class = map pos (objects_of facts class 0 objects)

abbrev pub entry_population : Facts → List MadeObject → ℕ → List ℤ
entry_population facts objects entry = class_population facts objects (meanings.Entry entry)

-- those of the built-in classes
abbrev pub builtin_populations : Facts → List MadeObject → List (List ℤ)
builtin_populations facts objects =
    class_population facts objects (meanings.BuiltIn 0) ∷ class_population facts objects (meanings.BuiltIn 1)
    ∷ class_population facts objects (meanings.BuiltIn 2) ∷ class_population facts objects (meanings.BuiltIn 3) ∷ []

-- those of the built-in classes, and of the classes whose names have these numbers
abbrev pub populations_with : Facts → List MadeObject → List ℕ → List (List ℤ)
populations_with facts objects entries = builtin_populations facts objects ++ map (entry_population facts objects) entries

-- those of all classes, in the order of a table
abbrev pub populations : Facts → List MadeObject → List (List ℤ)
populations facts objects = populations_with facts objects (class_entries facts.names 0 facts.names)

-- the class stands at this number, if the names of the declared ones have these numbers
abbrev pub is_numbered : List ℕ → ℕ → Meaning → Bool
is_numbered entries number (meanings.BuiltIn builtin) = nat_lt builtin 4 && builtin == number
is_numbered entries number (meanings.Entry entry) =
    nat_le 4 number && option_map_or (λ other. other == entry) (slice_get entries (number - 4)) false

-- ---- how they are found

-- the places of lists that stand behind those of the built-in classes, and those of these before them
abbrev pub behind_builtin : List ℕ → List ℕ
behind_builtin places = 0 ∷ 1 ∷ 2 ∷ 3 ∷ map (λ place. 4 + place) places

-- the number of the name of the class, if it is declared in the files
abbrev pub owner_of : Meaning → Option ℕ
owner_of (meanings.BuiltIn number) = None
owner_of (meanings.Entry entry) = Some entry

abbrev pub owners_of : List MadeObject → List (Option ℕ)
owners_of objects = map (λ object. owner_of object.class) objects

-- what the class leads up to is known to end
abbrev pub HasKnownLine : Facts → Meaning → Type 0
HasKnownLine facts (meanings.BuiltIn number) = Unit {0}
HasKnownLine facts (meanings.Entry entry) =
    (is_class_at facts.names entry ≡ true) × ((root : ℕ) × EndsAt facts.parents entry root)

-- the same of the class of each object
abbrev pub HaveKnownLines : Facts → List MadeObject → Type 0
HaveKnownLines facts objects =
    (number : ℕ) (object : MadeObject) → slice_get objects number ≡ Some object → HasKnownLine facts object.class

-- the same of the first objects, so many
abbrev pub HaveKnownLinesTo : Facts → ℕ → List MadeObject → Type 0
HaveKnownLinesTo facts count objects =
    (number : ℕ) (object : MadeObject) → number < count → slice_get objects number ≡ Some object → HasKnownLine facts object.class
