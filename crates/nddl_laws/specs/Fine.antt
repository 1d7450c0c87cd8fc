-- What is so of the trees of texts: names are names, literals are in range, and no set and no enum is empty.
use Rattle.std.specs.Prelude.{◌<◌, Option, Some, None, length, All, ⊤}
use Rattle.eu_name.specs.Word.{IsName}
use Rattle.nddl_ast.specs.declared.name.Name.{Name}
use Rattle.nddl_ast.specs.declared.name.Path.{Path}
use Rattle.nddl_ast.specs.declared.expression.Constant.{Constant}
use Rattle.nddl_ast.specs.declared.expression.Constant.TheVariants as constants
use Rattle.nddl_ast.specs.declared.expression.Expr.{Expr}
use Rattle.nddl_ast.specs.declared.expression.Expr.TheVariants as exprs
use Rattle.nddl_ast.specs.declared.expression.Value.{Value}
use Rattle.nddl_ast.specs.declared.expression.Value.TheVariants as values
use Rattle.nddl_ast.specs.declared.expression.BaseType.{BaseType}
use Rattle.nddl_ast.specs.declared.expression.BaseType.TheVariants as bases
use Rattle.nddl_ast.specs.declared.expression.Bounds.{Bounds}
use Rattle.nddl_ast.specs.declared.expression.Bounds.TheVariants as bounds
use Rattle.nddl_ast.specs.declared.expression.Type as types
use Rattle.nddl_ast.specs.declared.expression.Creation.{Creation}
use Rattle.nddl_ast.specs.declared.expression.Init.{Init}
use Rattle.nddl_ast.specs.declared.expression.Init.TheVariants as inits
use Rattle.nddl_ast.specs.declared.statement.Variable.{Variable}
use Rattle.nddl_ast.specs.declared.statement.Call.{Call}
use Rattle.nddl_ast.specs.declared.statement.Ask.{Ask}
use Rattle.nddl_ast.specs.declared.statement.Condition.{Condition}
use Rattle.nddl_ast.specs.declared.statement.Condition.TheVariants as conditions
use Rattle.nddl_ast.specs.Tree.{Statements, Nothing, Declares, Calls, Asks, Tests, Chooses, Repeats}
use Rattle.nddl_ast.specs.declared.declaration.Typed.{Typed}
use Rattle.nddl_ast.specs.declared.declaration.PredicatePart.{PredicatePart}
use Rattle.nddl_ast.specs.declared.declaration.PredicatePart.TheVariants as parts
use Rattle.nddl_ast.specs.declared.declaration.Set.{Set}
use Rattle.nddl_ast.specs.declared.declaration.Set.TheVariants as sets
use Rattle.nddl_ast.specs.declared.declaration.Member.{Member}
use Rattle.nddl_ast.specs.declared.declaration.Member.TheVariants as members
use Rattle.nddl_ast.specs.declared.declaration.Decl.{Decl}
use Rattle.nddl_ast.specs.declared.declaration.Decl.TheVariants as decls
use Rattle.nddl_lexer.specs.Spelling.{IsNumberInRange}

-- ---- names, values, expressions

abbrev pub IsFineName : Name → Type 0
IsFineName name = IsName name.text

abbrev pub IsFinePath : Path → Type 0
IsFinePath path = IsFineName path.first × All IsFineName path.rest

-- a number, or the thousandths of a decimal, is one that the language has
abbrev pub IsFineConstant : Constant → Type 0
IsFineConstant (constants.Number value) = IsNumberInRange value
IsFineConstant (constants.Decimal thousandths) = IsNumberInRange thousandths.0
IsFineConstant (constants.Truth value) = ⊤

abbrev pub IsFineExpr : Expr → Type 0
IsFineExpr (exprs.Path path) = IsFinePath path
IsFineExpr (exprs.Literal literal) = IsFineConstant literal.constant

abbrev pub IsFineValue : Value → Type 0
IsFineValue (values.Name name) = IsFineName name
IsFineValue (values.Literal literal) = IsFineConstant literal.constant

abbrev pub IsFineCreation : Creation → Type 0
IsFineCreation creation = IsFineName creation.class × All IsFineExpr creation.arguments

abbrev pub IsFineInit : Init → Type 0
IsFineInit (inits.Expr expr) = IsFineExpr expr
IsFineInit (inits.New creation) = IsFineCreation creation

-- ---- types

abbrev pub IsFineBase : BaseType → Type 0
IsFineBase (bases.Named name) = IsFineName name
IsFineBase base = ⊤

-- a written set has a value
abbrev pub IsFineBounds : Bounds → Type 0
IsFineBounds bounds.All = ⊤
IsFineBounds (bounds.Range at least greatest) = IsFineValue least × IsFineValue greatest
IsFineBounds (bounds.Set at values) = (0 < length values) × All IsFineValue values

abbrev pub IsFineType : types.Type → Type 0
IsFineType of = IsFineBase of.base × IsFineBounds of.bounds

abbrev pub IsFineTyped : Typed → Type 0
IsFineTyped typed = IsFineType typed.declared × IsFineName typed.name

-- ---- statements

abbrev pub IsFineStart : Option Init → Type 0
IsFineStart None = ⊤
IsFineStart (Some init) = IsFineInit init

abbrev pub IsFineVariable : Variable → Type 0
IsFineVariable variable = IsFineType variable.declared × (IsFineName variable.name × IsFineStart variable.init)

abbrev pub IsFineCall : Call → Type 0
IsFineCall call = IsFinePath call.path × All IsFineExpr call.arguments

abbrev pub IsFineAsk : Ask → Type 0
IsFineAsk ask = IsFineName ask.word × (IsFinePath ask.path × IsFineName ask.label)

abbrev pub IsFineCondition : Condition → Type 0
IsFineCondition (conditions.Truth expr) = IsFineExpr expr
IsFineCondition (conditions.Equal one other) = IsFineExpr one × IsFineExpr other
IsFineCondition (conditions.NotEqual one other) = IsFineExpr one × IsFineExpr other

abbrev pub AreFineStatements : Statements → Type 0
AreFineStatements Nothing = ⊤
AreFineStatements (Declares variable more) = IsFineVariable variable × AreFineStatements more
AreFineStatements (Calls call more) = IsFineCall call × AreFineStatements more
AreFineStatements (Asks ask more) = IsFineAsk ask × AreFineStatements more
AreFineStatements (Tests at condition then_at then more) =
    (IsFineCondition condition × AreFineStatements then) × AreFineStatements more
AreFineStatements (Chooses at condition then_at then else_at else more) =
    (IsFineCondition condition × (AreFineStatements then × AreFineStatements else)) × AreFineStatements more
AreFineStatements (Repeats at name class body_at body more) =
    (IsFineName name × (IsFineName class × AreFineStatements body)) × AreFineStatements more

-- ---- declarations

abbrev pub IsFinePart : PredicatePart → Type 0
IsFinePart (parts.Parameter typed) = IsFineTyped typed
IsFinePart (parts.Constraint call) = IsFineCall call

abbrev pub IsFineSet : Set → Type 0
IsFineSet (sets.Field name value) = IsFineName name × IsFineInit value
IsFineSet (sets.Super at arguments) = All IsFineExpr arguments

abbrev pub IsFineMember : Member → Type 0
IsFineMember (members.Field typed) = IsFineTyped typed
IsFineMember (members.Predicate at name parts) = IsFineName name × All IsFinePart parts
IsFineMember (members.Constructor name formals sets) =
    IsFineName name × (All IsFineTyped formals × All IsFineSet sets)

abbrev pub IsFineParent : Option Name → Type 0
IsFineParent None = ⊤
IsFineParent (Some name) = IsFineName name

-- an enum has a member
abbrev pub IsFineDecl : Decl → Type 0
IsFineDecl (decls.Include at file file_at) = ⊤
IsFineDecl (decls.Enum at name members_at members) = IsFineName name × ((0 < length members) × All IsFineName members)
IsFineDecl (decls.Typedef at declared name) = IsFineType declared × IsFineName name
IsFineDecl (decls.Forward at name) = IsFineName name
IsFineDecl (decls.Class at name parent members) = IsFineName name × (IsFineParent parent × All IsFineMember members)
IsFineDecl (decls.Rule class predicate body) =
    IsFineName class × (IsFineName predicate × AreFineStatements body.statements)
IsFineDecl (decls.Variable variable) = IsFineVariable variable
IsFineDecl (decls.Call call) = IsFineCall call
IsFineDecl (decls.Ask ask) = IsFineAsk ask
