-- Where the parts of a tree begin.
use Rattle.std.specs.Prelude.{ℕ}
use Rattle.nddl_ast.specs.declared.name.Path.{Path}
use Rattle.nddl_ast.specs.declared.expression.Expr.{Expr}
use Rattle.nddl_ast.specs.declared.expression.Expr.TheVariants as exprs
use Rattle.nddl_ast.specs.declared.expression.Value.{Value}
use Rattle.nddl_ast.specs.declared.expression.Value.TheVariants as values
use Rattle.nddl_ast.specs.declared.expression.Init.{Init}
use Rattle.nddl_ast.specs.declared.expression.Init.TheVariants as inits
use Rattle.nddl_ast.specs.declared.statement.Stmt.{Stmt}
use Rattle.nddl_ast.specs.declared.statement.Stmt.TheVariants as stmts
use Rattle.nddl_ast.specs.declared.declaration.PredicatePart.{PredicatePart}
use Rattle.nddl_ast.specs.declared.declaration.PredicatePart.TheVariants as parts
use Rattle.nddl_ast.specs.declared.declaration.Set.{Set}
use Rattle.nddl_ast.specs.declared.declaration.Set.TheVariants as sets
use Rattle.nddl_ast.specs.declared.declaration.Member.{Member}
use Rattle.nddl_ast.specs.declared.declaration.Member.TheVariants as members
use Rattle.nddl_ast.specs.declared.declaration.Decl.{Decl}
use Rattle.nddl_ast.specs.declared.declaration.Decl.TheVariants as decls

abbrev pub path_place : Path → ℕ
path_place path = path.first.at

abbrev pub expr_place : Expr → ℕ
expr_place (exprs.Path path) = path_place path
expr_place (exprs.Literal literal) = literal.at

abbrev pub value_place : Value → ℕ
value_place (values.Name name) = name.at
value_place (values.Literal literal) = literal.at

abbrev pub init_place : Init → ℕ
init_place (inits.Expr expr) = expr_place expr
init_place (inits.New creation) = creation.at

abbrev pub stmt_place : Stmt → ℕ
stmt_place (stmts.Variable variable) = variable.declared.at
stmt_place (stmts.Call call) = path_place call.path
stmt_place (stmts.Ask ask) = ask.word.at
stmt_place (stmts.If at condition then otherwise) = at
stmt_place (stmts.Foreach at variable class body) = at

abbrev pub part_place : PredicatePart → ℕ
part_place (parts.Parameter typed) = typed.declared.at
part_place (parts.Constraint call) = path_place call.path

abbrev pub set_place : Set → ℕ
set_place (sets.Field name value) = name.at
set_place (sets.Super at arguments) = at

abbrev pub member_place : Member → ℕ
member_place (members.Field typed) = typed.declared.at
member_place (members.Predicate at name body) = at
member_place (members.Constructor name formals body) = name.at

abbrev pub decl_place : Decl → ℕ
decl_place (decls.Include at file file_at) = at
decl_place (decls.Enum at name members_at members) = at
decl_place (decls.Typedef at declared name) = at
decl_place (decls.Forward at name) = at
decl_place (decls.Class at name parent members) = at
decl_place (decls.Rule class predicate body) = class.at
decl_place (decls.Variable variable) = variable.declared.at
decl_place (decls.Call call) = path_place call.path
decl_place (decls.Ask ask) = ask.word.at
