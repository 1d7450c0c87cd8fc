-- The fields that a class has by their names.
use Rattle.std.specs.Prelude.{ℕ, Bool, true, false, List, [], ◌∷◌, Option, Some, None}
use Rattle.std.specs.List.{filter_map, list_any}
use Rattle.std.specs.Option.{option_map_or, option_or}
use Rattle.std.specs.Str.{bytes_eq}
use Rattle.nddl_ast.specs.declared.declaration.Decl.{Decl}
use Rattle.nddl_ast.specs.declared.declaration.Typed.{Typed}
use Rattle.nddl_ast.specs.declared.expression.Type as types
use Rattle.nddl_symbols.specs.declared.declared.Declared.{Declared}
use Rattle.nddl_symbols.specs.declared.scope.Meaning.{Meaning}
use Rattle.nddl_symbols.specs.declared.scope.Meaning.TheVariants as meanings
use Rattle.nddl_typeexpr.specs.declared.kind.TypeKind.TheVariants as kinds
use Rattle.nddl_typeexpr.specs.declared.kind.TypeMeaning.{TypeMeaning}
use Rattle.nddl_typeexpr.specs.Bases.{base_kind}
use Rattle.nddl_hierarchy.specs.Ancestors.{above}
use Rattle.eu_forest.specs.Ancestors.{ancestry}
use Rattle.nddl_hierarchy.specs.Facts.{Facts}
use Rattle.nddl_hierarchy.specs.Members.{member_field, named_typed}
use Rattle.nddl_hierarchy.specs.Decls.{members_of}
use Rattle.nddl_types.specs.Classes.{builtin_fields}
use Rattle.nddl_resolve.specs.declared.denoted.Denoted.{Denoted}
use Rattle.nddl_resolve.specs.declared.denoted.Denoted.TheVariants as denoted

-- a value of a type, constant or not; where the type means nothing, nothing is said of it
abbrev pub type_value : List Declared → List (Option TypeMeaning) → Bool → types.Type → Denoted
type_value names known constant type =
    option_map_or (λ kind. denoted.Value kind constant) (base_kind names known type.base) denoted.Faulty

-- the field of this name that one of the classes of a line declares
abbrev pub field_along : List Declared → List Decl → List ℕ → List ℕ → Option Typed
field_along names program name [] = None
field_along names program name (entry ∷ more) =
    option_or (named_typed name (filter_map member_field (members_of names program entry)))
    (field_along names program name more)

-- ---- fields of built-in classes, which are whole numbers

-- the built-in class of this number has a field of this name
abbrev pub is_builtin_field : List ℕ → ℕ → Bool
is_builtin_field name number = list_any (λ field. bytes_eq name field.name) (builtin_fields number)

-- what is extended is a built-in class that has one
abbrev pub is_given_field : List ℕ → Option Meaning → Bool
is_given_field name (Some (meanings.BuiltIn number)) = is_builtin_field name number
is_given_field name meaning = false

-- one of the classes of a line extends such a class
abbrev pub is_given_along : List Declared → List Decl → List ℕ → List ℕ → Bool
is_given_along names program name line = list_any (λ entry. is_given_field name (above names program entry)) line

-- a whole number, if there is such a field
abbrev pub number_field : Bool → Bool → Option Denoted
number_field constant true = Some (denoted.Value kinds.Int constant)
number_field constant false = None

-- ---- fields of any class

-- the field of this name of a class with this line: of a constant object it is a constant
abbrev pub line_field : Facts → Bool → List ℕ → List ℕ → Option Denoted
line_field facts constant name line =
    option_map_or (λ typed. Some (type_value facts.names facts.known constant typed.declared))
    (field_along facts.names facts.program name line)
    (number_field constant (is_given_along facts.names facts.program name line))

-- the field of this name of a class, its own or an ancestor's
abbrev pub class_field : Facts → Bool → List ℕ → Meaning → Option Denoted
class_field facts constant name (meanings.BuiltIn number) = number_field constant (is_builtin_field name number)
class_field facts constant name (meanings.Entry entry) = line_field facts constant name (ancestry facts.parents entry)
