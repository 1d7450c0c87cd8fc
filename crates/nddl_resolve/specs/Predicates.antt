-- The predicates that a class has by their names, and the parts of tokens.
use Rattle.std.specs.Prelude.{ℕ, Bool, true, false, ◌||◌, List, [], ◌∷◌, Option, Some, None, slice_get, codes}
use Rattle.std.specs.Prelude.{if◌then◌else◌}
use Rattle.std.specs.List.{list_any, position_from}
use Rattle.std.specs.Option.{option_map, option_map_or, option_or}
use Rattle.std.specs.Str.{bytes_eq}
use Rattle.nddl_ast.specs.declared.declaration.Decl.{Decl}
use Rattle.nddl_ast.specs.declared.declaration.Member.{Member}
use Rattle.nddl_ast.specs.declared.declaration.Member.TheVariants as members
use Rattle.nddl_ast.specs.declared.declaration.PredicatePart.{PredicatePart}
use Rattle.nddl_symbols.specs.declared.declared.Declared.{Declared}
use Rattle.nddl_symbols.specs.declared.scope.Meaning.{Meaning}
use Rattle.nddl_symbols.specs.declared.scope.Meaning.TheVariants as meanings
use Rattle.nddl_typeexpr.specs.declared.kind.TypeKind.{TypeKind}
use Rattle.nddl_typeexpr.specs.declared.kind.TypeKind.TheVariants as kinds
use Rattle.nddl_hierarchy.specs.Ancestors.{above}
use Rattle.eu_forest.specs.Ancestors.{ancestry}
use Rattle.nddl_hierarchy.specs.Facts.{Facts}
use Rattle.nddl_hierarchy.specs.Members.{is_predicate_named, named_typed}
use Rattle.nddl_hierarchy.specs.Decls.{members_of}
use Rattle.nddl_declarations.specs.Members.{parameters_of}
use Rattle.nddl_types.specs.Predicates.{builtin_preds}
use Rattle.nddl_resolve.specs.declared.denoted.Denoted.{Denoted}
use Rattle.nddl_resolve.specs.declared.denoted.Denoted.TheVariants as denoted
use Rattle.nddl_resolve.specs.declared.denoted.Predicate.{Predicate}
use Rattle.nddl_resolve.specs.declared.denoted.Predicate.TheVariants as predicates
use Rattle.nddl_resolve.specs.declared.denoted.TokenSort.{TokenSort}
use Rattle.nddl_resolve.specs.Fields.{type_value}

-- the predicate of this name that one of the classes of a line declares
abbrev pub predicate_along : List Declared → List Decl → List ℕ → List ℕ → Option Predicate
predicate_along names program name [] = None
predicate_along names program name (entry ∷ more) =
    option_or
    (option_map (predicates.Declared entry) (position_from (is_predicate_named name) 0 (members_of names program entry)))
    (predicate_along names program name more)

-- ---- predicates of built-in classes

-- the built-in class of this number has a predicate of this name
abbrev pub is_builtin_pred : List ℕ → ℕ → Bool
is_builtin_pred name number = list_any (λ pred. bytes_eq name pred.name) (builtin_preds number number)

-- what is extended is a built-in class that has one
abbrev pub is_given_pred : List ℕ → Option Meaning → Bool
is_given_pred name (Some (meanings.BuiltIn number)) = is_builtin_pred name number
is_given_pred name meaning = false

-- one of the classes of a line extends such a class
abbrev pub is_pred_given_along : List Declared → List Decl → List ℕ → List ℕ → Bool
is_pred_given_along names program name line = list_any (λ entry. is_given_pred name (above names program entry)) line

-- a built-in predicate, if there is one
abbrev pub builtin_if : Bool → Option Predicate
builtin_if true = Some predicates.BuiltIn
builtin_if false = None

-- ---- predicates of any class

-- the predicate of this name of a class with this line
abbrev pub line_predicate : List Declared → List Decl → List ℕ → List ℕ → Option Predicate
line_predicate names program name line =
    option_or (predicate_along names program name line) (builtin_if (is_pred_given_along names program name line))

-- the predicate of this name of a class, its own or an ancestor's
abbrev pub class_predicate : Facts → List ℕ → Meaning → Option Predicate
class_predicate facts name (meanings.BuiltIn number) = builtin_if (is_builtin_pred name number)
class_predicate facts name (meanings.Entry entry) =
    line_predicate facts.names facts.program name (ancestry facts.parents entry)

-- ---- the parts of a token

-- a variable of this kind
abbrev pub changing_value : TypeKind → Denoted
changing_value kind = denoted.Value kind false

abbrev pub is_time_word : List ℕ → Bool
is_time_word name = bytes_eq name (codes "start") || (bytes_eq name (codes "end") || bytes_eq name (codes "duration"))

abbrev pub member_parts : Member → List PredicatePart
member_parts (members.Predicate at name parts) = parts
member_parts member = []

-- the parts of the predicate that a class declares as its member of this place
abbrev pub declared_parts : List Declared → List Decl → ℕ → ℕ → List PredicatePart
declared_parts names program entry member =
    option_map_or member_parts (slice_get (members_of names program entry) member) []

-- the parameter of this name
abbrev pub parameter_value : Facts → List ℕ → Predicate → Option Denoted
parameter_value facts name predicates.BuiltIn =
    if bytes_eq name (codes "quantity") then Some (changing_value kinds.Int) else None
parameter_value facts name (predicates.Declared entry member) =
    option_map (λ typed. type_value facts.names facts.known false typed.declared)
    (named_typed name (parameters_of (declared_parts facts.names facts.program entry member)))

-- the part of this name: a time, the object, which is of the class by which the token is asked for, or a parameter
abbrev pub token_part : Facts → List ℕ → TokenSort → Option Denoted
token_part facts name token =
    if is_time_word name then Some (changing_value kinds.Int)
    else (if bytes_eq name (codes "object") then Some (changing_value (kinds.Object token.class))
    else parameter_value facts name token.predicate)
