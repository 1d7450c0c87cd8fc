-- The grammar of statements and of what stands in them: of which symbols each part is made. One definition a line of
-- the grammar, places included.
use Rattle.std.specs.Prelude.{◌≡◌, ℕ, zero, suc, true, false, ◌⊎◌, Option, Some, None, List, [], ◌∷◌}
use Rattle.eu_name.specs.declared.word.Reserved.TheVariants as keywords
use Rattle.nddl_grammar.specs.declared.sort.Sort.TheVariants as sorts
use Rattle.nddl_grammar.specs.Symbols.{PlainSymbol}
use Rattle.nddl_grammar.specs.Exact.{◌·◌, IsPlaced, IsMark, IsNothing, AreFollowing, AreSeparated, AreListed, MayMark, earlier}
use Rattle.nddl_ast.specs.declared.name.Name.{Name}
use Rattle.nddl_ast.specs.declared.name.Path.{Path}
use Rattle.nddl_ast.specs.declared.expression.Constant.{Constant}
use Rattle.nddl_ast.specs.declared.expression.Constant.TheVariants as constants
use Rattle.nddl_ast.specs.declared.expression.Literal.{Literal}
use Rattle.nddl_ast.specs.declared.expression.Expr.{Expr}
use Rattle.nddl_ast.specs.declared.expression.Expr.TheVariants as exprs
use Rattle.nddl_ast.specs.declared.expression.Value.{Value}
use Rattle.nddl_ast.specs.declared.expression.Value.TheVariants as values
use Rattle.nddl_ast.specs.declared.expression.BaseType.{BaseType}
use Rattle.nddl_ast.specs.declared.expression.BaseType.TheVariants as bases
use Rattle.nddl_ast.specs.declared.expression.Bounds.{Bounds}
use Rattle.nddl_ast.specs.declared.expression.Bounds.TheVariants as bounds
use Rattle.nddl_ast.specs.declared.expression.Type as types
use Rattle.nddl_ast.specs.declared.expression.Creation.{Creation}
use Rattle.nddl_ast.specs.declared.expression.Init.{Init}
use Rattle.nddl_ast.specs.declared.expression.Init.TheVariants as inits
use Rattle.nddl_ast.specs.declared.statement.Variable.{Variable}
use Rattle.nddl_ast.specs.declared.statement.Call.{Call}
use Rattle.nddl_ast.specs.declared.statement.Ask.{Ask}
use Rattle.nddl_ast.specs.declared.statement.Condition.{Condition}
use Rattle.nddl_ast.specs.declared.statement.Condition.TheVariants as conditions
use Rattle.nddl_ast.specs.declared.declaration.Typed.{Typed}
use Rattle.nddl_ast.specs.Tree.{Statements, Nothing, Declares, Calls, Asks, Tests, Chooses, Repeats, Braces}

-- ---- names, values, expressions

pub record IsWrittenName (name : Name) (symbols : List PlainSymbol) : Type 0 where
  pub symbol : PlainSymbol
  pub only : symbols ≡ symbol ∷ []
  pub sorted : symbol.sort ≡ sorts.Name
  pub is : name ≡ record { text = symbol.bytes; at = symbol.at }

-- names with points between them
abbrev pub IsPath : Path → List PlainSymbol → Type 0
IsPath path = IsWrittenName path.first · AreFollowing sorts.Point IsWrittenName path.rest

-- the symbol writes the constant
abbrev pub Writes : PlainSymbol → Constant → Type 0
Writes symbol (constants.Number value) = (symbol.sort ≡ sorts.Number) × (value ≡ symbol.value)
Writes symbol (constants.Decimal thousandths) =
    (symbol.sort ≡ sorts.Decimal) × (thousandths ≡ record { 0 = symbol.value })
Writes symbol (constants.Truth true) = symbol.sort ≡ (sorts.Word keywords.True)
Writes symbol (constants.Truth false) = symbol.sort ≡ (sorts.Word keywords.False)

pub record IsLiteral (literal : Literal) (symbols : List PlainSymbol) : Type 0 where
  pub symbol : PlainSymbol
  pub only : symbols ≡ symbol ∷ []
  pub written : Writes symbol literal.constant
  pub placed : literal.at ≡ symbol.at

abbrev pub IsExpr : Expr → List PlainSymbol → Type 0
IsExpr (exprs.Path path) = IsPath path
IsExpr (exprs.Literal literal) = IsLiteral literal

abbrev pub IsWrittenValue : Value → List PlainSymbol → Type 0
IsWrittenValue (values.Name name) = IsWrittenName name
IsWrittenValue (values.Literal literal) = IsLiteral literal

abbrev pub AreExpressions : List Expr → List PlainSymbol → Type 0
AreExpressions = AreListed sorts.Comma IsExpr

abbrev pub IsCreation : Creation → List PlainSymbol → Type 0
IsCreation creation =
    IsPlaced (sorts.Word keywords.New) creation.at · IsWrittenName creation.class · IsMark sorts.ParenOpen
    · AreExpressions creation.arguments · IsMark sorts.ParenClose

abbrev pub IsInit : Init → List PlainSymbol → Type 0
IsInit (inits.Expr expr) = IsExpr expr
IsInit (inits.New creation) = IsCreation creation

-- ---- types

-- what the values of a type are, at the place where the type begins
abbrev pub IsBase : ℕ → BaseType → List PlainSymbol → Type 0
IsBase at bases.Int symbols = IsPlaced (sorts.Word keywords.Int) at symbols
IsBase at bases.Float symbols = IsPlaced (sorts.Word keywords.Float) at symbols
IsBase at bases.Bool symbols = IsPlaced (sorts.Word keywords.Bool) at symbols
IsBase at bases.Str symbols = IsPlaced (sorts.Word keywords.Str) at symbols
IsBase at (bases.Named name) symbols = IsWrittenName name symbols × (at ≡ name.at)

abbrev pub IsBounds : Bounds → List PlainSymbol → Type 0
IsBounds bounds.All = IsNothing
IsBounds (bounds.Range at least greatest) =
    IsPlaced sorts.BracketOpen at · IsWrittenValue least · MayMark sorts.Comma · IsWrittenValue greatest
    · IsMark sorts.BracketClose
IsBounds (bounds.Set at values) =
    IsPlaced sorts.BraceOpen at · AreSeparated sorts.Comma IsWrittenValue values · IsMark sorts.BraceClose

abbrev pub IsType : types.Type → List PlainSymbol → Type 0
IsType of = IsBase of.at of.base · IsBounds of.bounds

abbrev pub IsTyped : Typed → List PlainSymbol → Type 0
IsTyped typed = IsType typed.declared · IsWrittenName typed.name

-- ---- statements

abbrev pub IsStart : Option Init → List PlainSymbol → Type 0
IsStart None = IsNothing
IsStart (Some init) = IsMark sorts.Assign · IsInit init

abbrev pub IsVariable : Variable → List PlainSymbol → Type 0
IsVariable variable =
    IsType variable.declared · IsWrittenName variable.name · IsStart variable.init · IsMark sorts.Semicolon

abbrev pub IsCall : Call → List PlainSymbol → Type 0
IsCall call =
    IsPath call.path · IsMark sorts.ParenOpen · AreExpressions call.arguments · IsMark sorts.ParenClose
    · IsMark sorts.Semicolon

abbrev pub IsAsk : Ask → List PlainSymbol → Type 0
IsAsk ask = IsWrittenName ask.word · IsMark sorts.ParenOpen · IsPath ask.path · IsWrittenName ask.label
    · IsMark sorts.ParenClose · IsMark sorts.Semicolon

abbrev pub IsCondition : Condition → List PlainSymbol → Type 0
IsCondition (conditions.Truth expr) = IsExpr expr
IsCondition (conditions.Equal one other) = IsExpr one · IsMark sorts.Equal · IsExpr other
IsCondition (conditions.NotEqual one other) = IsExpr one · IsMark sorts.NotEqual · IsExpr other

-- one `if`, at the place, and nothing behind it
abbrev pub IsLoneIf : ℕ → Statements → Type 0
IsLoneIf at (Tests if_at condition then_at then Nothing) = at ≡ if_at
IsLoneIf at (Chooses if_at condition then_at then else_at else Nothing) = at ≡ if_at
IsLoneIf at other = ⊥

-- braces at the place, and these statements between them
abbrev pub Encloses : ℕ → (List PlainSymbol → Type 0) → List PlainSymbol → Type 0
Encloses at AreInside = IsPlaced sorts.BraceOpen at · AreInside · IsMark sorts.BraceClose

-- statements one after another; behind `else` stands a block, or one `if` without braces, which then is the block
abbrev pub AreStatements : Statements → List PlainSymbol → Type 0
AreStatements Nothing = IsNothing
AreStatements (Declares variable more) = IsVariable variable · AreStatements more
AreStatements (Calls call more) = IsCall call · AreStatements more
AreStatements (Asks ask more) = IsAsk ask · AreStatements more
AreStatements (Tests at condition then_at then more) =
    (IsPlaced (sorts.Word keywords.If) at · IsMark sorts.ParenOpen · IsCondition condition · IsMark sorts.ParenClose
    · Encloses then_at (AreStatements then)) · AreStatements more
AreStatements (Chooses at condition then_at then else_at else more) =
    (IsPlaced (sorts.Word keywords.If) at · IsMark sorts.ParenOpen · IsCondition condition · IsMark sorts.ParenClose
    · Encloses then_at (AreStatements then)
    · IsMark (sorts.Word keywords.Else)
    · (λ symbols. Encloses else_at (AreStatements else) symbols
    ⊎ (IsLoneIf else_at else × AreStatements else symbols))) · AreStatements more
AreStatements (Repeats at name class body_at body more) =
    (IsPlaced (sorts.Word keywords.Foreach) at · IsMark sorts.ParenOpen · IsWrittenName name
    · IsMark (sorts.Word keywords.In) · IsWrittenName class · IsMark sorts.ParenClose
    · Encloses body_at (AreStatements body)) · AreStatements more

abbrev pub IsBraced : Braces → List PlainSymbol → Type 0
IsBraced block = Encloses block.at (AreStatements block.statements)

-- ---- nesting

-- the place of a block in which so many may be nested, it among them; where none may, its own place
abbrev pub deep_enclosed : ℕ → ℕ → (ℕ → Option ℕ) → Option ℕ
deep_enclosed zero at inside = Some at
deep_enclosed (suc left) at inside = inside left

-- where the first block begins that is nested too deep, if so many may be nested
abbrev pub deep_statements : Statements → ℕ → Option ℕ
deep_statements Nothing left = None
deep_statements (Declares variable more) left = deep_statements more left
deep_statements (Calls call more) left = deep_statements more left
deep_statements (Asks ask more) left = deep_statements more left
deep_statements (Tests at condition then_at then more) left =
    earlier (deep_enclosed left then_at (deep_statements then)) (deep_statements more left)
deep_statements (Chooses at condition then_at then else_at else more) left =
    earlier (earlier (deep_enclosed left then_at (deep_statements then))
    (deep_enclosed left else_at (deep_statements else))) (deep_statements more left)
deep_statements (Repeats at name class body_at body more) left =
    earlier (deep_enclosed left body_at (deep_statements body)) (deep_statements more left)

abbrev pub deep_block : ℕ → Braces → Option ℕ
deep_block left block = deep_enclosed left block.at (deep_statements block.statements)
