-- What declarations say of what they stand under.
use Rattle.std.specs.Prelude.{ℕ, true, List, [], Option, Some, None, slice_get}
use Rattle.std.specs.Option.{option_and_then, option_map, option_map_or}
use Rattle.nddl_ast.specs.declared.declaration.Decl.{Decl}
use Rattle.nddl_ast.specs.declared.declaration.Decl.TheVariants as decls
use Rattle.nddl_ast.specs.declared.declaration.Member.{Member}
use Rattle.nddl_ast.specs.declared.expression.Type as types
use Rattle.nddl_ast.specs.declared.name.Name.{Name}
use Rattle.nddl_symbols.specs.declared.declared.Declared.{Declared}
use Rattle.nddl_symbols.specs.Scope.{named_number}

-- what a class says that it extends
abbrev pub class_parent : Decl → Option Name
class_parent (decls.Class at name parent members) = parent
class_parent decl = None

-- what a typedef is declared as
abbrev pub typedef_type : Decl → Option types.Type
typedef_type (decls.Typedef at declared name) = Some declared
typedef_type decl = None

-- the members of a class that is declared so
abbrev pub decl_members : Decl → List Member
decl_members (decls.Class at name parent members) = members
decl_members decl = []

-- the declaration in which a name stands
abbrev pub decl_of_name : List Decl → Declared → Option Decl
decl_of_name program declared = slice_get program declared.place.decl

-- the first declaration of this class with its members
abbrev pub declaration_with_body : List Declared → List Decl → Declared → Option Decl
declaration_with_body names program declared =
    option_and_then (λ number. option_and_then (decl_of_name program) (slice_get names number))
    (named_number true names declared.name)

-- its number
abbrev pub number_with_body : List Declared → Declared → Option ℕ
number_with_body names declared =
    option_and_then (λ number. option_map (λ (body : Declared). body.place.decl) (slice_get names number))
    (named_number true names declared.name)

-- the members of the class of this number
abbrev pub members_of : List Declared → List Decl → ℕ → List Member
members_of names program entry =
    option_map_or decl_members (option_and_then (declaration_with_body names program) (slice_get names entry)) []
