-- Trees with every place set to 0. Trees are equal up to places where these are equal.
use Rattle.std.specs.Prelude.{◌≡◌, ◌↔◌, map}
use Rattle.std.specs.Option.{option_map}
use Rattle.nddl_ast.specs.declared.name.Name.{Name}
use Rattle.nddl_ast.specs.declared.name.Path.{Path}
use Rattle.nddl_ast.specs.declared.expression.Literal.{Literal}
use Rattle.nddl_ast.specs.declared.expression.Expr.{Expr}
use Rattle.nddl_ast.specs.declared.expression.Expr.TheVariants as exprs
use Rattle.nddl_ast.specs.declared.expression.Value.{Value}
use Rattle.nddl_ast.specs.declared.expression.Value.TheVariants as values
use Rattle.nddl_ast.specs.declared.expression.BaseType.{BaseType}
use Rattle.nddl_ast.specs.declared.expression.BaseType.TheVariants as bases
use Rattle.nddl_ast.specs.declared.expression.Bounds.{Bounds}
use Rattle.nddl_ast.specs.declared.expression.Bounds.TheVariants as bounds
use Rattle.nddl_ast.specs.declared.expression.Type as types
use Rattle.nddl_ast.specs.declared.expression.Creation.{Creation}
use Rattle.nddl_ast.specs.declared.expression.Init.{Init}
use Rattle.nddl_ast.specs.declared.expression.Init.TheVariants as inits
use Rattle.nddl_ast.specs.declared.statement.Variable.{Variable}
use Rattle.nddl_ast.specs.declared.statement.Call.{Call}
use Rattle.nddl_ast.specs.declared.statement.Ask.{Ask}
use Rattle.nddl_ast.specs.declared.statement.Condition.{Condition}
use Rattle.nddl_ast.specs.declared.statement.Condition.TheVariants as conditions
use Rattle.nddl_ast.specs.declared.declaration.Typed.{Typed}
use Rattle.nddl_ast.specs.declared.declaration.PredicatePart.{PredicatePart}
use Rattle.nddl_ast.specs.declared.declaration.PredicatePart.TheVariants as parts
use Rattle.nddl_ast.specs.declared.declaration.Set.{Set}
use Rattle.nddl_ast.specs.declared.declaration.Set.TheVariants as sets
use Rattle.nddl_ast.specs.declared.declaration.Member.{Member}
use Rattle.nddl_ast.specs.declared.declaration.Member.TheVariants as members
use Rattle.nddl_ast.specs.declared.declaration.Decl.{Decl}
use Rattle.nddl_ast.specs.declared.declaration.Decl.TheVariants as decls
use Rattle.nddl_ast.specs.Tree.{Statements, Nothing, Declares, Calls, Asks, Tests, Chooses, Repeats, Braces}
use Rattle.nddl_ast.specs.Same.{SameDecl}

abbrev pub unplaced_name : Name → Name
unplaced_name name = record { text = name.text; at = 0 }

abbrev pub unplaced_path : Path → Path
unplaced_path path = record { first = unplaced_name path.first; rest = map unplaced_name path.rest }

abbrev pub unplaced_literal : Literal → Literal
unplaced_literal literal = record { constant = literal.constant; at = 0 }

abbrev pub unplaced_expr : Expr → Expr
unplaced_expr (exprs.Path path) = exprs.Path (unplaced_path path)
unplaced_expr (exprs.Literal literal) = exprs.Literal (unplaced_literal literal)

abbrev pub unplaced_value : Value → Value
unplaced_value (values.Name name) = values.Name (unplaced_name name)
unplaced_value (values.Literal literal) = values.Literal (unplaced_literal literal)

abbrev pub unplaced_base : BaseType → BaseType
unplaced_base bases.Int = bases.Int
unplaced_base bases.Float = bases.Float
unplaced_base bases.Bool = bases.Bool
unplaced_base bases.Str = bases.Str
unplaced_base (bases.Named name) = bases.Named (unplaced_name name)

abbrev pub unplaced_bounds : Bounds → Bounds
unplaced_bounds bounds.All = bounds.All
unplaced_bounds (bounds.Range at least greatest) = bounds.Range 0 (unplaced_value least) (unplaced_value greatest)
unplaced_bounds (bounds.Set at values) = bounds.Set 0 (map unplaced_value values)

abbrev pub unplaced_type : types.Type → types.Type
unplaced_type of = record { at = 0; base = unplaced_base of.base; bounds = unplaced_bounds of.bounds }

abbrev pub unplaced_creation : Creation → Creation
unplaced_creation creation =
    record { at = 0; class = unplaced_name creation.class; arguments = map unplaced_expr creation.arguments }

abbrev pub unplaced_init : Init → Init
unplaced_init (inits.Expr expr) = inits.Expr (unplaced_expr expr)
unplaced_init (inits.New creation) = inits.New (unplaced_creation creation)

abbrev pub unplaced_variable : Variable → Variable
unplaced_variable one =
    record { declared = unplaced_type one.declared; name = unplaced_name one.name; init = option_map unplaced_init one.init }

abbrev pub unplaced_call : Call → Call
unplaced_call one = record { path = unplaced_path one.path; arguments = map unplaced_expr one.arguments }

abbrev pub unplaced_ask : Ask → Ask
unplaced_ask one =
    record { word = unplaced_name one.word; path = unplaced_path one.path; label = unplaced_name one.label }

abbrev pub unplaced_condition : Condition → Condition
unplaced_condition (conditions.Truth expr) = conditions.Truth (unplaced_expr expr)
unplaced_condition (conditions.Equal one other) = conditions.Equal (unplaced_expr one) (unplaced_expr other)
unplaced_condition (conditions.NotEqual one other) = conditions.NotEqual (unplaced_expr one) (unplaced_expr other)

abbrev pub unplaced_statements : Statements → Statements
unplaced_statements Nothing = Nothing
unplaced_statements (Declares v more) = Declares (unplaced_variable v) (unplaced_statements more)
unplaced_statements (Calls c more) = Calls (unplaced_call c) (unplaced_statements more)
unplaced_statements (Asks a more) = Asks (unplaced_ask a) (unplaced_statements more)
unplaced_statements (Tests at condition then_at then more) =
    Tests 0 (unplaced_condition condition) 0 (unplaced_statements then) (unplaced_statements more)
unplaced_statements (Chooses at condition then_at then else_at else more) =
    Chooses 0 (unplaced_condition condition) 0 (unplaced_statements then) 0 (unplaced_statements else)
    (unplaced_statements more)
unplaced_statements (Repeats at name class body_at body more) =
    Repeats 0 (unplaced_name name) (unplaced_name class) 0 (unplaced_statements body) (unplaced_statements more)

abbrev pub unplaced_block : Braces → Braces
unplaced_block block = record { at = 0; statements = unplaced_statements block.statements }

abbrev pub unplaced_typed : Typed → Typed
unplaced_typed typed = record { declared = unplaced_type typed.declared; name = unplaced_name typed.name }

abbrev pub unplaced_part : PredicatePart → PredicatePart
unplaced_part (parts.Parameter typed) = parts.Parameter (unplaced_typed typed)
unplaced_part (parts.Constraint one) = parts.Constraint (unplaced_call one)

abbrev pub unplaced_set : Set → Set
unplaced_set (sets.Field name value) = sets.Field (unplaced_name name) (unplaced_init value)
unplaced_set (sets.Super at arguments) = sets.Super 0 (map unplaced_expr arguments)

abbrev pub unplaced_member : Member → Member
unplaced_member (members.Field typed) = members.Field (unplaced_typed typed)
unplaced_member (members.Predicate at name body) = members.Predicate 0 (unplaced_name name) (map unplaced_part body)
unplaced_member (members.Constructor name formals body) =
    members.Constructor (unplaced_name name) (map unplaced_typed formals) (map unplaced_set body)

abbrev pub unplaced : Decl → Decl
unplaced (decls.Include at file file_at) = decls.Include 0 file 0
unplaced (decls.Enum at name members_at members) = decls.Enum 0 (unplaced_name name) 0 (map unplaced_name members)
unplaced (decls.Typedef at declared name) = decls.Typedef 0 (unplaced_type declared) (unplaced_name name)
unplaced (decls.Forward at name) = decls.Forward 0 (unplaced_name name)
unplaced (decls.Class at name parent members) =
    decls.Class 0 (unplaced_name name) (option_map unplaced_name parent) (map unplaced_member members)
unplaced (decls.Rule class predicate body) =
    decls.Rule (unplaced_name class) (unplaced_name predicate) (unplaced_block body)
unplaced (decls.Variable one) = decls.Variable (unplaced_variable one)
unplaced (decls.Call one) = decls.Call (unplaced_call one)
unplaced (decls.Ask one) = decls.Ask (unplaced_ask one)

-- declarations are the same where they are equal once their places are 0
abbrev pub SameIsEqual : Type 0
SameIsEqual = (one other : Decl) → SameDecl one other ↔ (unplaced one ≡ unplaced other)

-- to be the same is an equivalence
pub record SameIsAnEquivalence : Type 0 where
  pub reflexive : (one : Decl) → SameDecl one one
  pub symmetric : (one other : Decl) → SameDecl one other → SameDecl other one
  pub transitive : (one other third : Decl) → SameDecl one other → SameDecl other third → SameDecl one third
