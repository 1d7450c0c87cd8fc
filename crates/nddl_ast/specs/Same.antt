-- When two trees are equal but for the places in them.
use Rattle.std.specs.Prelude.{◌≡◌, Option, Some, None, List, [], ◌∷◌}
use Rattle.nddl_ast.specs.declared.name.Name.{Name}
use Rattle.nddl_ast.specs.declared.name.Path.{Path}
use Rattle.nddl_ast.specs.declared.expression.Literal.{Literal}
use Rattle.nddl_ast.specs.declared.expression.Expr.{Expr}
use Rattle.nddl_ast.specs.declared.expression.Expr.TheVariants as exprs
use Rattle.nddl_ast.specs.declared.expression.Value.{Value}
use Rattle.nddl_ast.specs.declared.expression.Value.TheVariants as values
use Rattle.nddl_ast.specs.declared.expression.BaseType.{BaseType}
use Rattle.nddl_ast.specs.declared.expression.BaseType.TheVariants as bases
use Rattle.nddl_ast.specs.declared.expression.Bounds.{Bounds}
use Rattle.nddl_ast.specs.declared.expression.Bounds.TheVariants as bounds
use Rattle.nddl_ast.specs.declared.expression.Type as types
use Rattle.nddl_ast.specs.declared.expression.Creation.{Creation}
use Rattle.nddl_ast.specs.declared.expression.Init.{Init}
use Rattle.nddl_ast.specs.declared.expression.Init.TheVariants as inits
use Rattle.nddl_ast.specs.declared.statement.Variable.{Variable}
use Rattle.nddl_ast.specs.declared.statement.Call.{Call}
use Rattle.nddl_ast.specs.declared.statement.Ask.{Ask}
use Rattle.nddl_ast.specs.declared.statement.Condition.{Condition}
use Rattle.nddl_ast.specs.declared.statement.Condition.TheVariants as conditions
use Rattle.nddl_ast.specs.declared.declaration.Typed.{Typed}
use Rattle.nddl_ast.specs.declared.declaration.PredicatePart.{PredicatePart}
use Rattle.nddl_ast.specs.declared.declaration.PredicatePart.TheVariants as parts
use Rattle.nddl_ast.specs.declared.declaration.Set.{Set}
use Rattle.nddl_ast.specs.declared.declaration.Set.TheVariants as sets
use Rattle.nddl_ast.specs.declared.declaration.Member.{Member}
use Rattle.nddl_ast.specs.declared.declaration.Member.TheVariants as members
use Rattle.nddl_ast.specs.declared.declaration.Decl.{Decl}
use Rattle.nddl_ast.specs.declared.declaration.Decl.TheVariants as decls
use Rattle.nddl_ast.specs.Tree.{Statements, Nothing, Declares, Calls, Asks, Tests, Chooses, Repeats, Braces}

-- the lists have equal lengths, and what stands at one place in them is the same
abbrev pub AllSame : {A : Type 0} → (A → A → Type 0) → List A → List A → Type 0
AllSame Same [] [] = Unit {0}
AllSame Same (x ∷ xs) (y ∷ ys) = Same x y × AllSame Same xs ys
AllSame Same xs ys = ⊥

-- both are there and the same, or neither is
abbrev pub BothSame : {A : Type 0} → (A → A → Type 0) → Option A → Option A → Type 0
BothSame Same None None = Unit {0}
BothSame Same (Some x) (Some y) = Same x y
BothSame Same one other = ⊥

abbrev pub SameName : Name → Name → Type 0
SameName one other = one.text ≡ other.text

abbrev pub SamePath : Path → Path → Type 0
SamePath one other = SameName one.first other.first × AllSame SameName one.rest other.rest

abbrev pub SameLiteral : Literal → Literal → Type 0
SameLiteral one other = one.constant ≡ other.constant

abbrev pub SameExpr : Expr → Expr → Type 0
SameExpr (exprs.Path one) (exprs.Path other) = SamePath one other
SameExpr (exprs.Literal one) (exprs.Literal other) = SameLiteral one other
SameExpr one other = ⊥

abbrev pub SameValue : Value → Value → Type 0
SameValue (values.Name one) (values.Name other) = SameName one other
SameValue (values.Literal one) (values.Literal other) = SameLiteral one other
SameValue one other = ⊥

abbrev pub SameBase : BaseType → BaseType → Type 0
SameBase bases.Int bases.Int = Unit {0}
SameBase bases.Float bases.Float = Unit {0}
SameBase bases.Bool bases.Bool = Unit {0}
SameBase bases.Str bases.Str = Unit {0}
SameBase (bases.Named one) (bases.Named other) = SameName one other
SameBase one other = ⊥

abbrev pub SameBounds : Bounds → Bounds → Type 0
SameBounds bounds.All bounds.All = Unit {0}
SameBounds (bounds.Range at least greatest) (bounds.Range at' least' greatest') =
    SameValue least least' × SameValue greatest greatest'
SameBounds (bounds.Set at one) (bounds.Set at' other) = AllSame SameValue one other
SameBounds one other = ⊥

abbrev pub SameType : types.Type → types.Type → Type 0
SameType one other = SameBase one.base other.base × SameBounds one.bounds other.bounds

abbrev pub SameCreation : Creation → Creation → Type 0
SameCreation one other = SameName one.class other.class × AllSame SameExpr one.arguments other.arguments

abbrev pub SameInit : Init → Init → Type 0
SameInit (inits.Expr one) (inits.Expr other) = SameExpr one other
SameInit (inits.New one) (inits.New other) = SameCreation one other
SameInit one other = ⊥

-- ---- statements

abbrev pub SameVariable : Variable → Variable → Type 0
SameVariable one other =
    SameType one.declared other.declared × SameName one.name other.name × BothSame SameInit one.init other.init

abbrev pub SameCall : Call → Call → Type 0
SameCall one other = SamePath one.path other.path × AllSame SameExpr one.arguments other.arguments

abbrev pub SameAsk : Ask → Ask → Type 0
SameAsk one other = SameName one.word other.word × SamePath one.path other.path × SameName one.label other.label

abbrev pub SameCondition : Condition → Condition → Type 0
SameCondition (conditions.Truth one) (conditions.Truth other) = SameExpr one other
SameCondition (conditions.Equal one second) (conditions.Equal other second') =
    SameExpr one other × SameExpr second second'
SameCondition (conditions.NotEqual one second) (conditions.NotEqual other second') =
    SameExpr one other × SameExpr second second'
SameCondition one other = ⊥

abbrev pub SameStatements : Statements → Statements → Type 0
SameStatements Nothing Nothing = Unit {0}
SameStatements (Declares one more) (Declares other others) = SameVariable one other × SameStatements more others
SameStatements (Calls one more) (Calls other others) = SameCall one other × SameStatements more others
SameStatements (Asks one more) (Asks other others) = SameAsk one other × SameStatements more others
SameStatements (Tests at condition then_at then more) (Tests at' condition' then_at' then' others) =
    (SameCondition condition condition' × SameStatements then then') × SameStatements more others
SameStatements (Chooses at condition then_at then else_at else more)
    (Chooses at' condition' then_at' then' else_at' else' others) =
    (SameCondition condition condition' × SameStatements then then' × SameStatements else else')
    × SameStatements more others
SameStatements (Repeats at name class body_at body more) (Repeats at' name' class' body_at' body' others) =
    (SameName name name' × SameName class class' × SameStatements body body') × SameStatements more others
SameStatements one other = ⊥

abbrev pub SameBlock : Braces → Braces → Type 0
SameBlock one other = SameStatements one.statements other.statements

-- ---- declarations

abbrev pub SameTyped : Typed → Typed → Type 0
SameTyped one other = SameType one.declared other.declared × SameName one.name other.name

abbrev pub SamePart : PredicatePart → PredicatePart → Type 0
SamePart (parts.Parameter one) (parts.Parameter other) = SameTyped one other
SamePart (parts.Constraint one) (parts.Constraint other) = SameCall one other
SamePart one other = ⊥

abbrev pub SameSet : Set → Set → Type 0
SameSet (sets.Field name value) (sets.Field name' value') = SameName name name' × SameInit value value'
SameSet (sets.Super at one) (sets.Super at' other) = AllSame SameExpr one other
SameSet one other = ⊥

abbrev pub SameMember : Member → Member → Type 0
SameMember (members.Field one) (members.Field other) = SameTyped one other
SameMember (members.Predicate at name body) (members.Predicate at' name' body') =
    SameName name name' × AllSame SamePart body body'
SameMember (members.Constructor name formals body) (members.Constructor name' formals' body') =
    SameName name name' × AllSame SameTyped formals formals' × AllSame SameSet body body'
SameMember one other = ⊥

-- the declarations are equal up to places
abbrev pub SameDecl : Decl → Decl → Type 0
SameDecl (decls.Include at file file_at) (decls.Include at' file' file_at') = file ≡ file'
SameDecl (decls.Enum at name members_at one) (decls.Enum at' name' members_at' other) =
    SameName name name' × AllSame SameName one other
SameDecl (decls.Typedef at declared name) (decls.Typedef at' declared' name') =
    SameType declared declared' × SameName name name'
SameDecl (decls.Forward at name) (decls.Forward at' name') = SameName name name'
SameDecl (decls.Class at name parent one) (decls.Class at' name' parent' other) =
    SameName name name' × BothSame SameName parent parent' × AllSame SameMember one other
SameDecl (decls.Rule class predicate body) (decls.Rule class' predicate' body') =
    SameName class class' × SameName predicate predicate' × SameBlock body body'
SameDecl (decls.Variable one) (decls.Variable other) = SameVariable one other
SameDecl (decls.Call one) (decls.Call other) = SameCall one other
SameDecl (decls.Ask one) (decls.Ask other) = SameAsk one other
SameDecl one other = ⊥
