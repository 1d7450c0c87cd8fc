-- The nodes of a tree, by the places at which they begin, in the order of the text: each word that was kept, and each
-- type, `new`, range, set and block. A block behind `else` is none, since it may begin where the `if` in it does.
use Rattle.std.specs.Prelude.{ℕ, Option, Some, None, List, [], ◌∷◌, ◌++◌, map}
use Rattle.std.specs.List.{flat_map}
use Rattle.nddl_ast.specs.declared.name.Name.{Name}
use Rattle.nddl_ast.specs.declared.name.Path.{Path}
use Rattle.nddl_ast.specs.declared.expression.Expr.{Expr}
use Rattle.nddl_ast.specs.declared.expression.Expr.TheVariants as exprs
use Rattle.nddl_ast.specs.declared.expression.BaseType.{BaseType}
use Rattle.nddl_ast.specs.declared.expression.BaseType.TheVariants as bases
use Rattle.nddl_ast.specs.declared.expression.Bounds.{Bounds}
use Rattle.nddl_ast.specs.declared.expression.Bounds.TheVariants as bounds
use Rattle.nddl_ast.specs.declared.expression.Type as types
use Rattle.nddl_ast.specs.declared.expression.Creation.{Creation}
use Rattle.nddl_ast.specs.declared.expression.Init.{Init}
use Rattle.nddl_ast.specs.declared.expression.Init.TheVariants as inits
use Rattle.nddl_ast.specs.declared.statement.Variable.{Variable}
use Rattle.nddl_ast.specs.declared.statement.Call.{Call}
use Rattle.nddl_ast.specs.declared.statement.Ask.{Ask}
use Rattle.nddl_ast.specs.declared.statement.Condition.{Condition}
use Rattle.nddl_ast.specs.declared.statement.Condition.TheVariants as conditions
use Rattle.nddl_ast.specs.Tree.{Statements, Nothing, Declares, Calls, Asks, Tests, Chooses, Repeats, Braces}
use Rattle.nddl_ast.specs.Places.{value_place}
use Rattle.nddl_ast.specs.declared.declaration.Typed.{Typed}
use Rattle.nddl_ast.specs.declared.declaration.PredicatePart.{PredicatePart}
use Rattle.nddl_ast.specs.declared.declaration.PredicatePart.TheVariants as parts
use Rattle.nddl_ast.specs.declared.declaration.Set.{Set}
use Rattle.nddl_ast.specs.declared.declaration.Set.TheVariants as sets
use Rattle.nddl_ast.specs.declared.declaration.Member.{Member}
use Rattle.nddl_ast.specs.declared.declaration.Member.TheVariants as members
use Rattle.nddl_ast.specs.declared.declaration.Decl.{Decl}
use Rattle.nddl_ast.specs.declared.declaration.Decl.TheVariants as decls

-- ---- names, values, expressions

abbrev pub names_nodes : List Name → List ℕ
names_nodes names = map (λ name. name.at) names

abbrev pub path_nodes : Path → List ℕ
path_nodes path = path.first.at ∷ names_nodes path.rest

abbrev pub expr_nodes : Expr → List ℕ
expr_nodes (exprs.Path path) = path_nodes path
expr_nodes (exprs.Literal literal) = literal.at ∷ []

abbrev pub creation_nodes : Creation → List ℕ
creation_nodes creation = creation.at ∷ creation.class.at ∷ flat_map expr_nodes creation.arguments

abbrev pub init_nodes : Init → List ℕ
init_nodes (inits.Expr expr) = expr_nodes expr
init_nodes (inits.New creation) = creation_nodes creation

-- ---- types

abbrev pub bounds_nodes : Bounds → List ℕ
bounds_nodes bounds.All = []
bounds_nodes (bounds.Range at least greatest) = at ∷ value_place least ∷ value_place greatest ∷ []
bounds_nodes (bounds.Set at values) = at ∷ map value_place values

-- where a type begins: at its name, if it has one
abbrev pub base_node : ℕ → BaseType → ℕ
base_node at (bases.Named name) = name.at
base_node at base = at

abbrev pub type_nodes : types.Type → List ℕ
type_nodes of = base_node of.at of.base ∷ bounds_nodes of.bounds

abbrev pub typed_nodes : Typed → List ℕ
typed_nodes typed = type_nodes typed.declared ++ typed.name.at ∷ []

-- ---- statements

abbrev pub start_nodes : Option Init → List ℕ
start_nodes None = []
start_nodes (Some init) = init_nodes init

abbrev pub variable_nodes : Variable → List ℕ
variable_nodes variable = type_nodes variable.declared ++ variable.name.at ∷ start_nodes variable.init

abbrev pub call_nodes : Call → List ℕ
call_nodes call = path_nodes call.path ++ flat_map expr_nodes call.arguments

abbrev pub ask_nodes : Ask → List ℕ
ask_nodes ask = ask.word.at ∷ (path_nodes ask.path ++ ask.label.at ∷ [])

abbrev pub condition_nodes : Condition → List ℕ
condition_nodes (conditions.Truth expr) = expr_nodes expr
condition_nodes (conditions.Equal one other) = expr_nodes one ++ expr_nodes other
condition_nodes (conditions.NotEqual one other) = expr_nodes one ++ expr_nodes other

abbrev pub statements_nodes : Statements → List ℕ
statements_nodes Nothing = []
statements_nodes (Declares variable more) = variable_nodes variable ++ statements_nodes more
statements_nodes (Calls call more) = call_nodes call ++ statements_nodes more
statements_nodes (Asks ask more) = ask_nodes ask ++ statements_nodes more
statements_nodes (Tests at condition then_at then more) =
    (at ∷ (condition_nodes condition ++ then_at ∷ statements_nodes then)) ++ statements_nodes more
statements_nodes (Chooses at condition then_at then else_at else more) =
    (at ∷ (condition_nodes condition ++ ((then_at ∷ statements_nodes then) ++ statements_nodes else)))
    ++ statements_nodes more
statements_nodes (Repeats at name class body_at body more) =
    (at ∷ name.at ∷ class.at ∷ body_at ∷ statements_nodes body) ++ statements_nodes more

abbrev pub block_nodes : Braces → List ℕ
block_nodes block = block.at ∷ statements_nodes block.statements

-- ---- declarations

abbrev pub part_nodes : PredicatePart → List ℕ
part_nodes (parts.Parameter typed) = typed_nodes typed
part_nodes (parts.Constraint call) = call_nodes call

abbrev pub set_nodes : Set → List ℕ
set_nodes (sets.Field name value) = name.at ∷ init_nodes value
set_nodes (sets.Super at arguments) = at ∷ flat_map expr_nodes arguments

abbrev pub member_nodes : Member → List ℕ
member_nodes (members.Field typed) = typed_nodes typed
member_nodes (members.Predicate at name parts) = at ∷ name.at ∷ flat_map part_nodes parts
member_nodes (members.Constructor name formals sets) =
    name.at ∷ (flat_map typed_nodes formals ++ flat_map set_nodes sets)

abbrev pub parent_nodes : Option Name → List ℕ
parent_nodes None = []
parent_nodes (Some name) = name.at ∷ []

abbrev pub decl_nodes : Decl → List ℕ
decl_nodes (decls.Include at file file_at) = at ∷ file_at ∷ []
decl_nodes (decls.Enum at name members_at members) = at ∷ name.at ∷ members_at ∷ names_nodes members
decl_nodes (decls.Typedef at declared name) = at ∷ (type_nodes declared ++ name.at ∷ [])
decl_nodes (decls.Forward at name) = at ∷ name.at ∷ []
decl_nodes (decls.Class at name parent members) =
    at ∷ name.at ∷ (parent_nodes parent ++ flat_map member_nodes members)
decl_nodes (decls.Rule class predicate body) = class.at ∷ predicate.at ∷ block_nodes body
decl_nodes (decls.Variable variable) = variable_nodes variable
decl_nodes (decls.Call call) = call_nodes call
decl_nodes (decls.Ask ask) = ask_nodes ask

-- those of all declarations of a text
abbrev pub text_nodes : List Decl → List ℕ
text_nodes some = flat_map decl_nodes some
