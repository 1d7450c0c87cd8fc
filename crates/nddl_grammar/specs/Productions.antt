-- What the functions that read statements and their parts find at the front of a list of symbols. That they find
-- exactly what the grammar has is proved of them.
use Rattle.std.specs.Prelude.{ℕ, zero, suc, Bool, true, false, if◌then◌else◌, Option, Some, None, List, [], ◌∷◌, ◌++◌}
use Rattle.nddl_grammar.specs.declared.sort.Sort.{Sort}
use Rattle.eu_name.specs.declared.word.Reserved.TheVariants as keywords
use Rattle.nddl_grammar.specs.declared.sort.Sort.TheVariants as sorts
use Rattle.nddl_grammar.specs.Symbols.{PlainSymbol}
use Rattle.nddl_grammar.specs.Readers.{stuck, deep, Reader, and_then, is, symbol_of, mark_place, mark, may_mark}
use Rattle.nddl_grammar.specs.Readers.{nothing, mapped, sequence, choice, many, after, following, separated, listed}
use Rattle.nddl_ast.specs.declared.name.Name.{Name}
use Rattle.nddl_ast.specs.declared.name.Path.{Path}
use Rattle.nddl_ast.specs.declared.expression.Constant.TheVariants as constants
use Rattle.nddl_ast.specs.declared.expression.Literal.{Literal}
use Rattle.nddl_ast.specs.declared.expression.Expr.{Expr}
use Rattle.nddl_ast.specs.declared.expression.Expr.TheVariants as exprs
use Rattle.nddl_ast.specs.declared.expression.Value.{Value}
use Rattle.nddl_ast.specs.declared.expression.Value.TheVariants as values
use Rattle.nddl_ast.specs.declared.expression.BaseType.{BaseType}
use Rattle.nddl_ast.specs.declared.expression.BaseType.TheVariants as bases
use Rattle.nddl_ast.specs.declared.expression.Bounds.{Bounds}
use Rattle.nddl_ast.specs.declared.expression.Bounds.TheVariants as bounded
use Rattle.nddl_ast.specs.declared.expression.Type as types
use Rattle.nddl_ast.specs.declared.expression.Creation.{Creation}
use Rattle.nddl_ast.specs.declared.expression.Init.{Init}
use Rattle.nddl_ast.specs.declared.expression.Init.TheVariants as inits
use Rattle.nddl_ast.specs.declared.statement.Variable.{Variable}
use Rattle.nddl_ast.specs.declared.statement.Call.{Call}
use Rattle.nddl_ast.specs.declared.statement.Condition.{Condition}
use Rattle.nddl_ast.specs.declared.statement.Condition.TheVariants as conditions
use Rattle.nddl_ast.specs.declared.statement.Stmt.{Stmt}
use Rattle.nddl_ast.specs.declared.statement.Stmt.TheVariants as stmts
use Rattle.nddl_ast.specs.declared.declaration.Typed.{Typed}
use Rattle.nddl_ast.specs.Tree.{Braces}
use Rattle.nddl_ast.specs.Places.{stmt_place}
use Rattle.nddl_grammar.specs.Sorts.{same}
use Rattle.nddl_ast.specs.Block.{statements_of}
use Rattle.nddl_grammar.specs.declared.statements.SimpleStmt.{SimpleStmt}
use Rattle.nddl_grammar.specs.declared.statements.SimpleStmt.TheVariants as plains

-- ---- names, values, expressions

abbrev pub name_of : PlainSymbol → Name
name_of symbol = record { text = symbol.bytes; at = symbol.at }

unfoldable pub name : Reader Name
name = mapped name_of (symbol_of sorts.Name)

unfoldable pub path : Reader Path
path = mapped (λ p. record { first = p.0; rest = p.1 }) (sequence name (following sorts.Point name))

abbrev pub number_of : PlainSymbol → Literal
number_of symbol = record { constant = constants.Number symbol.value; at = symbol.at }

abbrev pub decimal_of : PlainSymbol → Literal
decimal_of symbol = record { constant = constants.Decimal (record { 0 = symbol.value }); at = symbol.at }

abbrev pub truth_of : Bool → ℕ → Literal
truth_of truth at = record { constant = constants.Truth truth; at = at }

abbrev pub truth : Reader Literal
truth = choice (is (sorts.Word keywords.True)) (mapped (truth_of true) (mark_place (sorts.Word keywords.True)))
    (mapped (truth_of false) (mark_place (sorts.Word keywords.False)))

unfoldable pub literal : Reader Literal
literal =
    choice (is sorts.Number) (mapped number_of (symbol_of sorts.Number))
    (choice (is sorts.Decimal) (mapped decimal_of (symbol_of sorts.Decimal)) truth)

unfoldable pub expr : Reader Expr
expr = choice (is sorts.Name) (mapped exprs.Path path) (mapped exprs.Literal literal)

unfoldable pub value : Reader Value
value = choice (is sorts.Name) (mapped values.Name name) (mapped values.Literal literal)

-- with what an expression and a value can begin
abbrev pub begins_value : Sort → Bool
begins_value sorts.Name = true
begins_value sorts.Number = true
begins_value sorts.Decimal = true
begins_value (sorts.Word keywords.True) = true
begins_value (sorts.Word keywords.False) = true
begins_value other = false

unfoldable pub arguments : Reader (List Expr)
arguments = listed begins_value sorts.Comma expr

unfoldable pub creation : Reader Creation
creation = mapped (λ p. record { at = p.0; class = p.1.0; arguments = p.1.1.1.0 })
    (sequence (mark_place (sorts.Word keywords.New))
    (sequence name (sequence (mark sorts.ParenOpen) (sequence arguments (mark sorts.ParenClose)))))

unfoldable pub init : Reader Init
init = choice (is (sorts.Word keywords.New)) (mapped inits.New creation) (mapped inits.Expr expr)

-- ---- types

abbrev pub placed : BaseType → ℕ → ℕ × BaseType
placed base at = (at, base)

abbrev pub named : Name → ℕ × BaseType
named name = (name.at, bases.Named name)

abbrev pub base_behind : Reader (ℕ × BaseType)
base_behind =
    choice (is (sorts.Word keywords.Str)) (mapped (placed bases.Str) (mark_place (sorts.Word keywords.Str)))
    (mapped named name)

unfoldable pub base : Reader (ℕ × BaseType)
base =
    choice (is (sorts.Word keywords.Int)) (mapped (placed bases.Int) (mark_place (sorts.Word keywords.Int)))
    (choice (is (sorts.Word keywords.Float)) (mapped (placed bases.Float) (mark_place (sorts.Word keywords.Float)))
    (choice (is (sorts.Word keywords.Bool))
    (mapped (placed bases.Bool) (mark_place (sorts.Word keywords.Bool))) base_behind))

unfoldable pub range : Reader Bounds
range = mapped (λ p. bounded.Range p.0 p.1.0 p.1.1.1.0)
    (sequence (mark_place sorts.BracketOpen)
    (sequence value (sequence (may_mark sorts.Comma) (sequence value (mark sorts.BracketClose)))))

unfoldable pub set : Reader Bounds
set = mapped (λ p. bounded.Set p.0 p.1.0)
    (sequence (mark_place sorts.BraceOpen) (sequence (separated sorts.Comma value) (mark sorts.BraceClose)))

unfoldable pub bounds : Reader Bounds
bounds = choice (is sorts.BracketOpen) range (choice (is sorts.BraceOpen) set (nothing bounded.All))

unfoldable pub type_of : Reader types.Type
type_of = mapped (λ p. record { at = p.0.0; base = p.0.1; bounds = p.1 }) (sequence base bounds)

unfoldable pub typed : Reader Typed
typed = mapped (λ p. record { declared = p.0; name = p.1 }) (sequence type_of name)

unfoldable pub field : Reader Typed
field = mapped (λ p. p.0) (sequence typed (mark sorts.Semicolon))

-- ---- statements without blocks

unfoldable pub start : Reader (Option Init)
start = choice (is sorts.Assign) (mapped Some (after sorts.Assign init)) (nothing None)

unfoldable pub variable : Reader Variable
variable = mapped (λ p. record { declared = p.0; name = p.1.0; init = p.1.1.0 })
    (sequence type_of (sequence name (sequence start (mark sorts.Semicolon))))

-- the type that begins with the name
abbrev pub type_named : Name → Bounds → types.Type
type_named first bounds = record { at = first.at; base = bases.Named first; bounds = bounds }

-- what a variable is behind the first name of its type
unfoldable pub variable_after : Name → Reader Variable
variable_after first =
    mapped (λ p. record { declared = type_named first p.0; name = p.1.0; init = p.1.1.0 })
    (sequence bounds (sequence name (sequence start (mark sorts.Semicolon))))

unfoldable pub field_after : Name → Reader Typed
field_after first =
    mapped (λ p. record { declared = type_named first p.0; name = p.1.0 })
    (sequence bounds (sequence name (mark sorts.Semicolon)))

-- arguments between parentheses, and `;`
unfoldable pub call_end : Reader (List Expr)
call_end = mapped (λ p. p.1.0)
    (sequence (mark sorts.ParenOpen) (sequence arguments (sequence (mark sorts.ParenClose) (mark sorts.Semicolon))))

-- a call behind the first name of its path, where the path goes on
unfoldable pub dotted_after : Name → Reader Call
dotted_after first =
    mapped (λ p. record { path = record { first = first; rest = p.0 }; arguments = p.1 })
    (sequence (after sorts.Point (separated sorts.Point name)) call_end)

-- a call behind its one name
unfoldable pub call_after : Name → Reader Call
call_after first =
    mapped (λ arguments. record { path = record { first = first; rest = [] }; arguments = arguments }) call_end

-- the ends of a call or of what asks for something, between the parentheses, behind a path
abbrev pub asks : Name → Path → Name → SimpleStmt
asks word path label = plains.Ask (record { word = word; path = path; label = label })

abbrev pub calls : Name → List Expr → SimpleStmt
calls word arguments = plains.Call (record { path = record { first = word; rest = [] }; arguments = arguments })

unfoldable pub behind_path : Name → Path → Reader SimpleStmt
behind_path word path =
    choice (is sorts.Name) (mapped (asks word path) name)
    (mapped (calls word) (mapped (λ more. (exprs.Path path ∷ []) ++ more) (following sorts.Comma expr)))

unfoldable pub inside_path : Name → Reader SimpleStmt
inside_path word symbols = and_then (path symbols) (behind_path word)

unfoldable pub inside : Name → Reader SimpleStmt
inside word = choice (is sorts.Name) (inside_path word) (mapped (calls word) arguments)

-- what stands between parentheses behind the word, and `;`
unfoldable pub parens_after : Name → Reader SimpleStmt
parens_after word =
    mapped (λ p. p.1.0)
    (sequence (mark sorts.ParenOpen) (sequence (inside word) (sequence (mark sorts.ParenClose) (mark sorts.Semicolon))))

-- what can stand behind a name
unfoldable pub plain_after : Name → Reader SimpleStmt
plain_after first =
    choice (is sorts.ParenOpen) (parens_after first)
    (choice (is sorts.Point) (mapped plains.Call (dotted_after first)) (mapped plains.Variable (variable_after first)))

-- a variable, a call, or what asks for something
unfoldable pub plain_named : Reader SimpleStmt
plain_named symbols = and_then (name symbols) plain_after

unfoldable pub plain : Reader SimpleStmt
plain = choice (is sorts.Name) plain_named (mapped plains.Variable variable)

-- ---- statements with blocks

unfoldable pub condition_behind : Expr → Reader Condition
condition_behind one =
    choice (is sorts.Equal) (mapped (conditions.Equal one) (after sorts.Equal expr))
    (choice (is sorts.NotEqual) (mapped (conditions.NotEqual one) (after sorts.NotEqual expr))
    (nothing (conditions.Truth one)))

unfoldable pub condition : Reader Condition
condition symbols = and_then (expr symbols) condition_behind

abbrev pub stmt_of : SimpleStmt → Stmt
stmt_of (plains.Variable variable) = stmts.Variable variable
stmt_of (plains.Call call) = stmts.Call call
stmt_of (plains.Ask ask) = stmts.Ask ask

abbrev pub begins_type : Sort → Bool
begins_type sorts.Name = true
begins_type (sorts.Word keywords.Int) = true
begins_type (sorts.Word keywords.Float) = true
begins_type (sorts.Word keywords.Bool) = true
begins_type (sorts.Word keywords.Str) = true
begins_type other = false

abbrev pub begins_stmt : Sort → Bool
begins_stmt (sorts.Word keywords.If) = true
begins_stmt (sorts.Word keywords.Foreach) = true
begins_stmt other = begins_type other

-- the one statement as a block, at its place
abbrev pub lone : Stmt → Braces
lone stmt = record { at = stmt_place stmt; statements = statements_of (stmt ∷ []) }

-- a block that is nested too deep, where a symbol of the sort begins one
unfoldable pub too_deep : Sort → Reader Braces
too_deep sort [] = stuck []
too_deep sort (symbol ∷ rest) = if same symbol.sort sort then deep (symbol ∷ rest) else stuck (symbol ∷ rest)

-- the blocks that can be read further in: between braces, and behind `else`
abbrev pub Inner : Type 0
Inner = Reader Braces × Reader Braces

abbrev pub otherwise_with : Inner → Reader (Option Braces)
otherwise_with inner =
    choice (is (sorts.Word keywords.Else)) (mapped Some (after (sorts.Word keywords.Else) inner.1)) (nothing None)

abbrev pub if_with : Inner → Reader Stmt
if_with inner = mapped (λ p. stmts.If p.0 p.1.1.0 p.1.1.1.1.0 p.1.1.1.1.1)
    (sequence (mark_place (sorts.Word keywords.If))
    (sequence (mark sorts.ParenOpen)
    (sequence condition (sequence (mark sorts.ParenClose) (sequence inner.0 (otherwise_with inner))))))

abbrev pub foreach_with : Inner → Reader Stmt
foreach_with inner = mapped (λ p. stmts.Foreach p.0 p.1.1.0 p.1.1.1.1.0 p.1.1.1.1.1.1)
    (sequence (mark_place (sorts.Word keywords.Foreach))
    (sequence (mark sorts.ParenOpen)
    (sequence name
    (sequence (mark (sorts.Word keywords.In)) (sequence name (sequence (mark sorts.ParenClose) inner.0))))))

abbrev pub stmt_with : Inner → Reader Stmt
stmt_with inner =
    choice (is (sorts.Word keywords.If)) (if_with inner)
    (choice (is (sorts.Word keywords.Foreach)) (foreach_with inner) (mapped stmt_of plain))

-- a block in which the others are read
abbrev pub block_with : Inner → Reader Braces
block_with inner = mapped (λ p. record { at = p.0; statements = statements_of p.1.0 })
    (sequence (mark_place sorts.BraceOpen) (sequence (many begins_stmt (stmt_with inner)) (mark sorts.BraceClose)))

-- the blocks where so many may be nested
unfoldable pub blocks : ℕ → Inner
blocks zero = (
  too_deep sorts.BraceOpen,
  choice (is (sorts.Word keywords.If)) (too_deep (sorts.Word keywords.If))
      (too_deep sorts.BraceOpen),
)
blocks (suc left) = (
  block_with (blocks left),
  choice (is (sorts.Word keywords.If)) (mapped lone (if_with (blocks left)))
      (block_with (blocks left)),
)

unfoldable pub block : ℕ → Reader Braces
block left = (blocks left).0

unfoldable pub else_block : ℕ → Reader Braces
else_block left = (blocks left).1

unfoldable pub otherwise : ℕ → Reader (Option Braces)
otherwise left = otherwise_with (block left, else_block left)

unfoldable pub if_stmt : ℕ → Reader Stmt
if_stmt left = if_with (block left, else_block left)

unfoldable pub foreach : ℕ → Reader Stmt
foreach left = foreach_with (block left, else_block left)

unfoldable pub stmt : ℕ → Reader Stmt
stmt left = stmt_with (block left, else_block left)

unfoldable pub statements : ℕ → Reader (List Stmt)
statements left = many begins_stmt (stmt left)

-- a block in which so many may be nested
unfoldable pub braces : ℕ → Reader Braces
braces left =
    mapped (λ p. record { at = p.0; statements = statements_of p.1.0 })
    (sequence (mark_place sorts.BraceOpen) (sequence (statements left) (mark sorts.BraceClose)))

-- an `if` behind an `else`
unfoldable pub lone_if : ℕ → Reader Braces
lone_if left = mapped lone (if_stmt left)
