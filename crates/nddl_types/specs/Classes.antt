-- The enums and the classes of a program, and which fields a class has.
use Rattle.std.specs.Prelude.{ℕ, ◌+◌, ◌==◌, ◌&&◌, Bool, false, pos, negsuc, Option, Some, None, codes, if◌then◌else◌}
use Rattle.std.specs.Prelude.{List, [], ◌∷◌, ◌++◌, map, reverse, slice_get}
use Rattle.std.specs.List.{filter_map, flat_map}
use Rattle.std.specs.Option.{option_map_or}
use Rattle.model_core.specs.declared.class.Class.{Class}
use Rattle.model_core.specs.declared.class.Enum.{Enum}
use Rattle.model_core.specs.declared.variable.VarDecl.{VarDecl}
use Rattle.nddl_ast.specs.declared.declaration.Decl.{Decl}
use Rattle.nddl_ast.specs.declared.declaration.Decl.TheVariants as decls
use Rattle.nddl_ast.specs.declared.declaration.Member.{Member}
use Rattle.nddl_symbols.specs.declared.declared.Declared.{Declared}
use Rattle.nddl_symbols.specs.declared.scope.Meaning.{Meaning}
use Rattle.nddl_symbols.specs.declared.scope.Meaning.TheVariants as meanings
use Rattle.nddl_symbols.specs.Names.{is_class_sort}
use Rattle.nddl_symbols.specs.Scope.{named_number}
use Rattle.nddl_hierarchy.specs.Ancestors.{above}
use Rattle.eu_forest.specs.Ancestors.{ancestry}
use Rattle.nddl_hierarchy.specs.Facts.{Facts}
use Rattle.nddl_hierarchy.specs.Members.{member_field}
use Rattle.nddl_hierarchy.specs.Decls.{members_of}
use Rattle.nddl_declarations.specs.Declares.{number_variable, variables_of}

-- the enum that a declaration is
abbrev pub enum_of : Decl → Option Enum
enum_of (decls.Enum at name members_at members) =
    Some (record { name = name.text; members = map (λ member. member.text) members })
enum_of decl = None

-- the enums, one for each declaration, in their order
abbrev pub enums_of : List Decl → List Enum
enums_of program = filter_map enum_of program

-- ---- numbers of classes

-- nothing is declared under the name before this number
abbrev pub is_first : List Declared → ℕ → Declared → Bool
is_first names number declared = option_map_or (λ first. first == number) (named_number false names declared.name) false

abbrev pub is_first_class : List Declared → ℕ → Declared → Bool
is_first_class names number declared = is_class_sort declared.sort && is_first names number declared

-- the numbers of those names that are classes, each where it is declared first; the first of these names has this number
abbrev pub class_entries : List Declared → ℕ → List Declared → List ℕ
class_entries names number [] = []
class_entries names number (declared ∷ more) =
    (if is_first_class names number declared then number ∷ [] else []) ++ class_entries names (number + 1) more

-- Which class each of these names would be, where the next class is this one: the classes are numbered in the order in
-- which they are declared first.
abbrev pub class_numbers : List Declared → ℕ → ℕ → List Declared → List ℕ
class_numbers names next number [] = []
class_numbers names next number (declared ∷ more) =
    next ∷ class_numbers names (if is_first_class names number declared then next + 1 else next) (number + 1) more

-- the number of what means this as a class; the four built-in ones come first
abbrev pub class_number : List Declared → Meaning → ℕ
class_number names (meanings.BuiltIn number) = number
class_number names (meanings.Entry entry) = option_map_or (λ number. number) (slice_get (class_numbers names 4 0 names) entry) 0

-- the number of the class that a class extends: where it extends none it is under the class of objects
abbrev pub parent_number : List Declared → Option Meaning → ℕ
parent_number names None = 0
parent_number names (Some meaning) = class_number names meaning

-- ---- fields

-- a built-in field: any whole number
abbrev pub whole_field : List ℕ → VarDecl
whole_field name = number_variable name (negsuc 999999) (pos 1000000)

-- the fields of the built-in class of this number
abbrev pub builtin_fields : ℕ → List VarDecl
builtin_fields number =
    if number == 2 then whole_field (codes "capacity") ∷ []
    else (if number == 3
    then whole_field (codes "initial") ∷ whole_field (codes "low") ∷ whole_field (codes "high") ∷ []
    else [])

-- those of a built-in class that is extended
abbrev pub given_fields : Option Meaning → List VarDecl
given_fields (Some (meanings.BuiltIn number)) = builtin_fields number
given_fields meaning = []

-- the fields that members declare
abbrev pub declared_fields : Facts → List Enum → List Member → List VarDecl
declared_fields facts enums some = variables_of facts enums (filter_map member_field some)

-- what the class of this number adds to the fields of a line: those of the built-in class that it extends, and its own
abbrev pub fields_at : Facts → List Enum → ℕ → List VarDecl
fields_at facts enums entry =
    given_fields (above facts.names facts.program entry)
    ++ declared_fields facts enums (members_of facts.names facts.program entry)

-- the class and those that it extends, the topmost first
abbrev pub line_down : Facts → ℕ → List ℕ
line_down facts entry = reverse (ancestry facts.parents entry)

-- the fields of a class: those of its ancestors, the topmost first, and then its own
abbrev pub class_fields : Facts → List Enum → ℕ → List VarDecl
class_fields facts enums entry = flat_map (fields_at facts enums) (line_down facts entry)

-- ---- classes

-- the name of this number
abbrev pub name_of_entry : List Declared → ℕ → List ℕ
name_of_entry names entry = option_map_or (λ declared. declared.name) (slice_get names entry) []

-- the class whose name has this number
abbrev pub compiled_class : Facts → List Enum → ℕ → Class
compiled_class facts enums entry =
    record {
      name = name_of_entry facts.names entry;
      parent = Some (parent_number facts.names (above facts.names facts.program entry));
      fields = class_fields facts enums entry;
    }

-- the built-in class of this number
abbrev pub builtin_class : List ℕ → Option ℕ → ℕ → Class
builtin_class name parent number = record { name = name; parent = parent; fields = builtin_fields number }

-- the built-in classes, in their order
abbrev pub builtin_classes : List Class
builtin_classes =
    builtin_class (codes "Object") None 0 ∷ builtin_class (codes "Timeline") (Some 0) 1
    ∷ builtin_class (codes "Reusable") (Some 0) 2 ∷ builtin_class (codes "Reservoir") (Some 0) 3 ∷ []

-- the classes: the built-in ones, and one for each name, in the order in which they are declared first
abbrev pub classes_of : Facts → List Enum → List Class
classes_of facts enums = builtin_classes ++ map (compiled_class facts enums) (class_entries facts.names 0 facts.names)
