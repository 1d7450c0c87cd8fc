-- The canonical spelling of a tree: its words, without what can be left out, one line a declaration. One definition a
-- line of the grammar.
use Rattle.std.specs.Prelude.{ℕ, true, false, Option, Some, None, List, [], ◌∷◌, ◌++◌}
use Rattle.std.specs.List.{flat_map}
use Rattle.nddl_grammar.specs.declared.sort.Sort.{Sort}
use Rattle.eu_name.specs.declared.word.Reserved.TheVariants as keywords
use Rattle.nddl_grammar.specs.declared.sort.Sort.TheVariants as sorts
use Rattle.nddl_ast.specs.declared.name.Name.{Name}
use Rattle.nddl_ast.specs.declared.name.Path.{Path}
use Rattle.nddl_ast.specs.declared.expression.Constant.{Constant}
use Rattle.nddl_ast.specs.declared.expression.Constant.TheVariants as constants
use Rattle.nddl_ast.specs.declared.expression.Literal.{Literal}
use Rattle.nddl_ast.specs.declared.expression.Expr.{Expr}
use Rattle.nddl_ast.specs.declared.expression.Expr.TheVariants as exprs
use Rattle.nddl_ast.specs.declared.expression.Value.{Value}
use Rattle.nddl_ast.specs.declared.expression.Value.TheVariants as values
use Rattle.nddl_ast.specs.declared.expression.BaseType.{BaseType}
use Rattle.nddl_ast.specs.declared.expression.BaseType.TheVariants as bases
use Rattle.nddl_ast.specs.declared.expression.Bounds.{Bounds}
use Rattle.nddl_ast.specs.declared.expression.Bounds.TheVariants as bounds
use Rattle.nddl_ast.specs.declared.expression.Type as types
use Rattle.nddl_ast.specs.declared.expression.Creation.{Creation}
use Rattle.nddl_ast.specs.declared.expression.Init.{Init}
use Rattle.nddl_ast.specs.declared.expression.Init.TheVariants as inits
use Rattle.nddl_ast.specs.declared.statement.Variable.{Variable}
use Rattle.nddl_ast.specs.declared.statement.Call.{Call}
use Rattle.nddl_ast.specs.declared.statement.Ask.{Ask}
use Rattle.nddl_ast.specs.declared.statement.Condition.{Condition}
use Rattle.nddl_ast.specs.declared.statement.Condition.TheVariants as conditions
use Rattle.nddl_ast.specs.declared.declaration.Typed.{Typed}
use Rattle.nddl_ast.specs.declared.declaration.PredicatePart.{PredicatePart}
use Rattle.nddl_ast.specs.declared.declaration.PredicatePart.TheVariants as parts
use Rattle.nddl_ast.specs.declared.declaration.Set.{Set}
use Rattle.nddl_ast.specs.declared.declaration.Set.TheVariants as sets
use Rattle.nddl_ast.specs.declared.declaration.Member.{Member}
use Rattle.nddl_ast.specs.declared.declaration.Member.TheVariants as members
use Rattle.nddl_ast.specs.declared.declaration.Decl.{Decl}
use Rattle.nddl_ast.specs.declared.declaration.Decl.TheVariants as decls
use Rattle.nddl_ast.specs.Tree.{Statements, Nothing, Declares, Calls, Asks, Tests, Chooses, Repeats, Braces}
use Rattle.nddl_print.specs.Words.{Word, Fixed, Named, Number, Decimal, Quoted, line_of}

-- the one words and then the others
infixr 5 ◌⌢◌
unfoldable pub ◌⌢◌ : List Word → List Word → List Word
words ⌢ more = words ++ more

-- a reserved word or a mark
abbrev pub fixed : Sort → List Word
fixed sort = Fixed sort ∷ []

-- ---- lists

-- the words of each item, one item after another
abbrev pub many_words : {X : Type 0} → (X → List Word) → List X → List Word
many_words words [] = []
many_words words (x ∷ xs) = words x ⌢ many_words words xs

-- items, each behind a separator
abbrev pub following_words : {X : Type 0} → Sort → (X → List Word) → List X → List Word
following_words sort words = many_words (λ x. fixed sort ⌢ words x)

-- items with commas between them
abbrev pub listed_words : {X : Type 0} → (X → List Word) → List X → List Word
listed_words words [] = []
listed_words words (x ∷ xs) = words x ⌢ following_words sorts.Comma words xs

-- ---- names, values, expressions

abbrev pub name_words : Name → List Word
name_words name = Named name.text ∷ []

abbrev pub path_words : Path → List Word
path_words path = name_words path.first ⌢ following_words sorts.Point name_words path.rest

abbrev pub constant_words : Constant → List Word
constant_words (constants.Number value) = Number value ∷ []
constant_words (constants.Decimal thousandths) = Decimal thousandths.0 ∷ []
constant_words (constants.Truth true) = fixed (sorts.Word keywords.True)
constant_words (constants.Truth false) = fixed (sorts.Word keywords.False)

abbrev pub literal_words : Literal → List Word
literal_words literal = constant_words literal.constant

abbrev pub expr_words : Expr → List Word
expr_words (exprs.Path path) = path_words path
expr_words (exprs.Literal literal) = literal_words literal

abbrev pub value_words : Value → List Word
value_words (values.Name name) = name_words name
value_words (values.Literal literal) = literal_words literal

abbrev pub argument_words : List Expr → List Word
argument_words arguments = fixed sorts.ParenOpen ⌢ listed_words expr_words arguments ⌢ fixed sorts.ParenClose

abbrev pub creation_words : Creation → List Word
creation_words creation =
    fixed (sorts.Word keywords.New) ⌢ name_words creation.class ⌢ argument_words creation.arguments

abbrev pub init_words : Init → List Word
init_words (inits.Expr expr) = expr_words expr
init_words (inits.New creation) = creation_words creation

-- ---- types

abbrev pub base_words : BaseType → List Word
base_words bases.Int = fixed (sorts.Word keywords.Int)
base_words bases.Float = fixed (sorts.Word keywords.Float)
base_words bases.Bool = fixed (sorts.Word keywords.Bool)
base_words bases.Str = fixed (sorts.Word keywords.Str)
base_words (bases.Named name) = name_words name

-- a range is written without a comma
abbrev pub range_words : Value → Value → List Word
range_words least greatest =
    fixed sorts.BracketOpen ⌢ value_words least ⌢ value_words greatest ⌢ fixed sorts.BracketClose

-- words between braces
abbrev pub braced : List Word → List Word
braced words = fixed sorts.BraceOpen ⌢ words ⌢ fixed sorts.BraceClose

abbrev pub bounds_words : Bounds → List Word
bounds_words bounds.All = []
bounds_words (bounds.Range at least greatest) = range_words least greatest
bounds_words (bounds.Set at values) = braced (listed_words value_words values)

abbrev pub type_words : types.Type → List Word
type_words of = base_words of.base ⌢ bounds_words of.bounds

abbrev pub typed_words : Typed → List Word
typed_words typed = type_words typed.declared ⌢ name_words typed.name

-- ---- statements

abbrev pub start_words : Option Init → List Word
start_words None = []
start_words (Some init) = fixed sorts.Assign ⌢ init_words init

abbrev pub variable_words : Variable → List Word
variable_words variable =
    type_words variable.declared ⌢ name_words variable.name ⌢ start_words variable.init ⌢ fixed sorts.Semicolon

abbrev pub call_words : Call → List Word
call_words call = path_words call.path ⌢ argument_words call.arguments ⌢ fixed sorts.Semicolon

abbrev pub ask_words : Ask → List Word
ask_words ask =
    name_words ask.word ⌢ fixed sorts.ParenOpen ⌢ path_words ask.path ⌢ name_words ask.label ⌢ fixed sorts.ParenClose
    ⌢ fixed sorts.Semicolon

abbrev pub condition_words : Condition → List Word
condition_words (conditions.Truth expr) = expr_words expr
condition_words (conditions.Equal one other) = expr_words one ⌢ fixed sorts.Equal ⌢ expr_words other
condition_words (conditions.NotEqual one other) = expr_words one ⌢ fixed sorts.NotEqual ⌢ expr_words other

-- `if` and its condition
abbrev pub if_words : Condition → List Word
if_words condition =
    fixed (sorts.Word keywords.If) ⌢ fixed sorts.ParenOpen ⌢ condition_words condition ⌢ fixed sorts.ParenClose

-- `foreach`, its variable and its class
abbrev pub foreach_words : Name → Name → List Word
foreach_words name class =
    fixed (sorts.Word keywords.Foreach) ⌢ fixed sorts.ParenOpen ⌢ name_words name ⌢ fixed (sorts.Word keywords.In)
    ⌢ name_words class ⌢ fixed sorts.ParenClose

-- each block has its braces, that behind `else` too if it is an `if`
abbrev pub statements_words : Statements → List Word
statements_words Nothing = []
statements_words (Declares variable more) = variable_words variable ⌢ statements_words more
statements_words (Calls call more) = call_words call ⌢ statements_words more
statements_words (Asks ask more) = ask_words ask ⌢ statements_words more
statements_words (Tests at condition then_at then more) =
    (if_words condition ⌢ braced (statements_words then)) ⌢ statements_words more
statements_words (Chooses at condition then_at then else_at else more) =
    (if_words condition ⌢ braced (statements_words then) ⌢ fixed (sorts.Word keywords.Else)
    ⌢ braced (statements_words else)) ⌢ statements_words more
statements_words (Repeats at name class body_at body more) =
    (foreach_words name class ⌢ braced (statements_words body)) ⌢ statements_words more

abbrev pub block_words : Braces → List Word
block_words block = braced (statements_words block.statements)

abbrev pub else_words : Option Braces → List Word
else_words None = []
else_words (Some block) = fixed (sorts.Word keywords.Else) ⌢ block_words block

-- ---- declarations

abbrev pub part_words : PredicatePart → List Word
part_words (parts.Parameter typed) = typed_words typed ⌢ fixed sorts.Semicolon
part_words (parts.Constraint call) = call_words call

abbrev pub set_words : Set → List Word
set_words (sets.Field name value) = name_words name ⌢ fixed sorts.Assign ⌢ init_words value ⌢ fixed sorts.Semicolon
set_words (sets.Super at arguments) =
    fixed (sorts.Word keywords.Super) ⌢ argument_words arguments ⌢ fixed sorts.Semicolon

abbrev pub formal_words : List Typed → List Word
formal_words formals = fixed sorts.ParenOpen ⌢ listed_words typed_words formals ⌢ fixed sorts.ParenClose

abbrev pub member_words : Member → List Word
member_words (members.Field typed) = typed_words typed ⌢ fixed sorts.Semicolon
member_words (members.Predicate at name parts) =
    fixed (sorts.Word keywords.Predicate) ⌢ name_words name ⌢ braced (many_words part_words parts)
member_words (members.Constructor name formals sets) =
    name_words name ⌢ formal_words formals ⌢ braced (many_words set_words sets)

abbrev pub parent_words : Option Name → List Word
parent_words None = []
parent_words (Some name) = fixed (sorts.Word keywords.Extends) ⌢ name_words name

-- no `;` behind an include, an enum or the body of a class
abbrev pub decl_words : Decl → List Word
decl_words (decls.Include at file file_at) = fixed sorts.Include ⌢ (Quoted file ∷ [])
decl_words (decls.Enum at name members_at members) =
    fixed (sorts.Word keywords.Enum) ⌢ name_words name ⌢ braced (listed_words name_words members)
decl_words (decls.Typedef at declared name) =
    fixed (sorts.Word keywords.Typedef) ⌢ type_words declared ⌢ name_words name ⌢ fixed sorts.Semicolon
decl_words (decls.Forward at name) = fixed (sorts.Word keywords.Class) ⌢ name_words name ⌢ fixed sorts.Semicolon
decl_words (decls.Class at name parent members) =
    fixed (sorts.Word keywords.Class) ⌢ name_words name ⌢ parent_words parent ⌢ braced (many_words member_words members)
decl_words (decls.Rule class predicate body) =
    name_words class ⌢ fixed sorts.DoubleColon ⌢ name_words predicate ⌢ block_words body
decl_words (decls.Variable variable) = variable_words variable
decl_words (decls.Call call) = call_words call
decl_words (decls.Ask ask) = ask_words ask

-- the canonical spelling: a line for each declaration
abbrev pub spelling_of : List Decl → List ℕ
spelling_of tree = flat_map (λ decl. line_of (decl_words decl)) tree
