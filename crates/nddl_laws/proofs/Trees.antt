-- What the words of each part of the grammar show of it, in the order of the grammar's definitions.
use Rattle.std.proofs.Common.{◌≡◌, ℕ, ◌<◌, List, [], ◌∷◌, length, sym, ap, subst, inl, inr}
use Rattle.std.specs.Prelude.{◌⊎◌, Option, Some, None, All, map}
use Rattle.std.specs.List.{flat_map}
use Rattle.eu_name.specs.Word.{IsName}
use Rattle.eu_name.specs.declared.word.Reserved.TheVariants as keywords
use Rattle.nddl_grammar.specs.declared.sort.Sort.{Sort}
use Rattle.nddl_grammar.specs.declared.sort.Sort.TheVariants as sorts
use Rattle.nddl_grammar.specs.Symbols.{PlainSymbol}
use Rattle.nddl_grammar.specs.Exact.{◌·◌, IsPlaced, IsMark, IsNothing, AreFollowing, AreSeparated, MayMark}
use Rattle.nddl_ast.specs.declared.name.Name.{Name}
use Rattle.nddl_ast.specs.declared.name.Path.{Path}
use Rattle.nddl_ast.specs.declared.expression.Constant.{Constant}
use Rattle.nddl_ast.specs.declared.expression.Constant.TheVariants as constants
use Rattle.nddl_ast.specs.declared.expression.Literal.{Literal}
use Rattle.nddl_ast.specs.declared.expression.Expr.{Expr}
use Rattle.nddl_ast.specs.declared.expression.Expr.TheVariants as exprs
use Rattle.nddl_ast.specs.declared.expression.Value.{Value}
use Rattle.nddl_ast.specs.declared.expression.Value.TheVariants as values
use Rattle.nddl_ast.specs.declared.expression.BaseType.{BaseType}
use Rattle.nddl_ast.specs.declared.expression.BaseType.TheVariants as bases
use Rattle.nddl_ast.specs.declared.expression.Bounds.{Bounds}
use Rattle.nddl_ast.specs.declared.expression.Bounds.TheVariants as bounds
use Rattle.nddl_ast.specs.declared.expression.Type as types
use Rattle.nddl_ast.specs.declared.expression.Creation.{Creation}
use Rattle.nddl_ast.specs.declared.expression.Init.{Init}
use Rattle.nddl_ast.specs.declared.expression.Init.TheVariants as inits
use Rattle.nddl_ast.specs.declared.statement.Variable.{Variable}
use Rattle.nddl_ast.specs.declared.statement.Call.{Call}
use Rattle.nddl_ast.specs.declared.statement.Ask.{Ask}
use Rattle.nddl_ast.specs.declared.statement.Condition.{Condition}
use Rattle.nddl_ast.specs.declared.statement.Condition.TheVariants as conditions
use Rattle.nddl_ast.specs.Tree.{Statements, Nothing, Declares, Calls, Asks, Tests, Chooses, Repeats, Braces}
use Rattle.nddl_ast.specs.Places.{value_place}
use Rattle.nddl_ast.specs.declared.declaration.Typed.{Typed}
use Rattle.nddl_ast.specs.declared.declaration.PredicatePart.{PredicatePart}
use Rattle.nddl_ast.specs.declared.declaration.PredicatePart.TheVariants as parts
use Rattle.nddl_ast.specs.declared.declaration.Set.{Set}
use Rattle.nddl_ast.specs.declared.declaration.Set.TheVariants as sets
use Rattle.nddl_ast.specs.declared.declaration.Member.{Member}
use Rattle.nddl_ast.specs.declared.declaration.Member.TheVariants as members
use Rattle.nddl_ast.specs.declared.declaration.Decl.{Decl}
use Rattle.nddl_ast.specs.declared.declaration.Decl.TheVariants as decls
use Rattle.nddl_lexer.specs.Spelling.{IsNumberInRange}
use Rattle.nddl_grammar.specs.Grammar.{IsWrittenName, IsPath, Writes, IsLiteral, IsExpr, IsWrittenValue, AreExpressions, IsCreation, IsInit, IsBase, IsBounds, IsType, IsTyped, IsStart, IsVariable, IsCall, IsAsk, IsCondition, Encloses, IsLoneIf, AreStatements, IsBraced}
use Rattle.nddl_parser.specs.Grammar.{IsPredicatePart, IsSet, IsMember, IsFile, IsParent, IsDecl, IsText}
use Rattle.nddl_laws.specs.Fine.{IsFineName, IsFinePath, IsFineConstant, IsFineExpr, IsFineValue, IsFineCreation, IsFineInit, IsFineBase, IsFineBounds, IsFineType, IsFineTyped, IsFineStart, IsFineVariable, IsFineCall, IsFineAsk, IsFineCondition, AreFineStatements, IsFinePart, IsFineSet, IsFineMember, IsFineParent, IsFineDecl}
use Rattle.nddl_laws.specs.Nodes.{names_nodes, path_nodes, expr_nodes, creation_nodes, init_nodes, base_node, bounds_nodes, type_nodes, typed_nodes, start_nodes, variable_nodes, call_nodes, ask_nodes, condition_nodes, statements_nodes, block_nodes, part_nodes, set_nodes, member_nodes, parent_nodes, decl_nodes}
use Rattle.nddl_laws.proofs.Symbols.{IsFineSymbol, AreFineSymbols, places_of}
use Rattle.nddl_laws.proofs.Shows.{Picks, Words, Shows, both, behind, first_of, second_of, placed, nothing, many, following, listed, separated, each_place, same_nodes}

-- the words show this
abbrev No : Type 0
No = Unit {0}

-- ---- names, values, expressions

name_shows : (name : Name) → Shows (IsWrittenName name) (IsFineName name) (name.at ∷ [])
name_shows name = record {
  shown = λ symbols is.
      let P : List PlainSymbol → Type 0 = λ s. Picks (name.at ∷ []) (places_of s) in
      let text : is.symbol.bytes ≡ name.text = sym (ap (λ n. n.text) is.is) in
      let here : name.at ≡ is.symbol.at = ap (λ n. n.at) is.is in (
        (λ fine. let all = subst AreFineSymbols is.only fine in subst IsName text (all.0.name is.sorted)),
        subst P (sym is.only) (inl (here, tt)),
      );
}

names_show : (names : List Name) → Shows (AreFollowing sorts.Point IsWrittenName names) (All IsFineName names) (names_nodes names)
names_show names = same_nodes (AreFollowing sorts.Point IsWrittenName names) (All IsFineName names) (flat_map (λ n. n.at ∷ []) names) (names_nodes names)
    (each_place (λ (n : Name). n.at) names)
    (following sorts.Point IsWrittenName IsFineName (λ n. n.at ∷ []) name_shows names)

path_shows : (path : Path) → Shows (IsPath path) (IsFinePath path) (path_nodes path)
path_shows path = both (name_shows path.first) (names_show path.rest)

written_fine : (symbol : PlainSymbol) (constant : Constant) → Writes symbol constant → IsFineSymbol symbol → IsFineConstant constant
written_fine symbol (constants.Number value) writes fine = subst IsNumberInRange (sym writes.1) (fine.number writes.0)
written_fine symbol (constants.Decimal thousandths) writes fine =
    subst IsNumberInRange (sym (ap (λ t. t.0) writes.1)) (fine.decimal writes.0)
written_fine symbol (constants.Truth value) writes fine = tt

literal_shows : (literal : Literal) → Shows (IsLiteral literal) (IsFineConstant literal.constant) (literal.at ∷ [])
literal_shows literal = record {
  shown = λ symbols is.
      let P : List PlainSymbol → Type 0 = λ s. Picks (literal.at ∷ []) (places_of s) in (
        (λ fine. let all = subst AreFineSymbols is.only fine in written_fine is.symbol literal.constant is.written all.0),
        subst P (sym is.only) (inl (is.placed, tt)),
      );
}

expr_shows : (expr : Expr) → Shows (IsExpr expr) (IsFineExpr expr) (expr_nodes expr)
expr_shows (exprs.Path path) = path_shows path
expr_shows (exprs.Literal literal) = literal_shows literal

value_shows : (value : Value) → Shows (IsWrittenValue value) (IsFineValue value) (value_place value ∷ [])
value_shows (values.Name name) = name_shows name
value_shows (values.Literal literal) = literal_shows literal

arguments_show : (arguments : List Expr) → Shows (AreExpressions arguments) (All IsFineExpr arguments) (flat_map expr_nodes arguments)
arguments_show arguments = listed sorts.Comma IsExpr IsFineExpr expr_nodes expr_shows arguments

-- a mark, and then this
past_mark : {Q : Words} {fact : Type 0} {nodes : List ℕ} (sort : Sort) → Shows Q fact nodes → Shows (IsMark sort · Q) fact nodes
past_mark sort q = second_of (IsMark sort) q

-- a word at its place, and then this
past_word : {Q : Words} {fact : Type 0} {nodes : List ℕ} (sort : Sort) (at : ℕ) → Shows Q fact nodes → Shows (IsPlaced sort at · Q) fact (at ∷ nodes)
past_word sort at q = behind (placed sort at) q

creation_shows : (creation : Creation) → Shows (IsCreation creation) (IsFineCreation creation) (creation_nodes creation)
creation_shows creation = past_word (sorts.Word keywords.New) creation.at
    (both (name_shows creation.class) (past_mark sorts.ParenOpen (first_of (IsMark sorts.ParenClose) (arguments_show creation.arguments))))

init_shows : (init : Init) → Shows (IsInit init) (IsFineInit init) (init_nodes init)
init_shows (inits.Expr expr) = expr_shows expr
init_shows (inits.New creation) = creation_shows creation

-- ---- types

base_shows : (at : ℕ) (base : BaseType) → Shows (IsBase at base) (IsFineBase base) (base_node at base ∷ [])
base_shows at bases.Int = placed (sorts.Word keywords.Int) at
base_shows at bases.Float = placed (sorts.Word keywords.Float) at
base_shows at bases.Bool = placed (sorts.Word keywords.Bool) at
base_shows at bases.Str = placed (sorts.Word keywords.Str) at
base_shows at (bases.Named name) = record { shown = λ symbols is. (name_shows name).shown symbols is.0 }

values_show : (values : List Value) → Shows (AreSeparated sorts.Comma IsWrittenValue values) ((0 < length values) × All IsFineValue values) (map value_place values)
values_show values = same_nodes (AreSeparated sorts.Comma IsWrittenValue values) ((0 < length values) × All IsFineValue values)
    (flat_map (λ v. value_place v ∷ []) values) (map value_place values) (each_place value_place values)
    (separated sorts.Comma IsWrittenValue IsFineValue (λ v. value_place v ∷ []) value_shows values)

bounds_show : (bounds : Bounds) → Shows (IsBounds bounds) (IsFineBounds bounds) (bounds_nodes bounds)
bounds_show bounds.All = nothing IsNothing
bounds_show (bounds.Range at least greatest) = past_word sorts.BracketOpen at
    (both (value_shows least)
    (second_of (MayMark sorts.Comma) (first_of (IsMark sorts.BracketClose) (value_shows greatest))))
bounds_show (bounds.Set at values) = past_word sorts.BraceOpen at
    (first_of (IsMark sorts.BraceClose) (values_show values))

type_shows : (of : types.Type) → Shows (IsType of) (IsFineType of) (type_nodes of)
type_shows of = both (base_shows of.at of.base) (bounds_show of.bounds)

typed_shows : (typed : Typed) → Shows (IsTyped typed) (IsFineTyped typed) (typed_nodes typed)
typed_shows typed = both (type_shows typed.declared) (name_shows typed.name)

-- ---- statements

start_shows : (start : Option Init) → Shows (IsStart start) (IsFineStart start) (start_nodes start)
start_shows None = nothing IsNothing
start_shows (Some init) = past_mark sorts.Assign (init_shows init)

variable_shows : (variable : Variable) → Shows (IsVariable variable) (IsFineVariable variable) (variable_nodes variable)
variable_shows variable = both (type_shows variable.declared)
    (both (name_shows variable.name) (first_of (IsMark sorts.Semicolon) (start_shows variable.init)))

call_shows : (call : Call) → Shows (IsCall call) (IsFineCall call) (call_nodes call)
call_shows call = both (path_shows call.path) (past_mark sorts.ParenOpen (first_of _ (arguments_show call.arguments)))

ask_shows : (ask : Ask) → Shows (IsAsk ask) (IsFineAsk ask) (ask_nodes ask)
ask_shows ask = both (name_shows ask.word)
    (past_mark sorts.ParenOpen (both (path_shows ask.path) (first_of _ (name_shows ask.label))))

condition_shows : (condition : Condition) → Shows (IsCondition condition) (IsFineCondition condition) (condition_nodes condition)
condition_shows (conditions.Truth expr) = expr_shows expr
condition_shows (conditions.Equal one other) = both (expr_shows one) (past_mark sorts.Equal (expr_shows other))
condition_shows (conditions.NotEqual one other) = both (expr_shows one) (past_mark sorts.NotEqual (expr_shows other))

enclosed : {Inside : Words} {fact : Type 0} {nodes : List ℕ} (at : ℕ) → Shows Inside fact nodes → Shows (Encloses at Inside) fact (at ∷ nodes)
enclosed at inside = past_word sorts.BraceOpen at (first_of (IsMark sorts.BraceClose) inside)

-- the block behind `else`, without its own place
behind_else : {Inside : Words} {fact : Type 0} {nodes : List ℕ} (at : ℕ) (Lone : Type 0) → Shows Inside fact nodes → (symbols : List PlainSymbol)
    → Encloses at Inside symbols ⊎ (Lone × Inside symbols) → (AreFineSymbols symbols → fact) × Picks nodes (places_of symbols)
behind_else at Lone inside symbols (inl braces) = (second_of (IsPlaced sorts.BraceOpen at) (first_of (IsMark sorts.BraceClose) inside)).shown symbols braces
behind_else at Lone inside symbols (inr lone) = inside.shown symbols lone.1

otherwise : {Inside : Words} {fact : Type 0} {nodes : List ℕ} (at : ℕ) (Lone : Type 0) → Shows Inside fact nodes
    → Shows (λ symbols. Encloses at Inside symbols ⊎ (Lone × Inside symbols)) fact nodes
otherwise at Lone inside = record { shown = behind_else at Lone inside }

statements_show : (statements : Statements) → Shows (AreStatements statements) (AreFineStatements statements) (statements_nodes statements)
statements_show Nothing = nothing IsNothing
statements_show (Declares variable more) = both (variable_shows variable) (statements_show more)
statements_show (Calls call more) = both (call_shows call) (statements_show more)
statements_show (Asks ask more) = both (ask_shows ask) (statements_show more)
statements_show (Tests at condition then_at then more) =
    both
    (past_word (sorts.Word keywords.If) at
    (past_mark sorts.ParenOpen
    (both (condition_shows condition)
    (past_mark sorts.ParenClose (enclosed then_at (statements_show then))))))
    (statements_show more)
statements_show (Chooses at condition then_at then else_at else more) =
    both
    (past_word (sorts.Word keywords.If) at
    (past_mark sorts.ParenOpen
    (both (condition_shows condition)
    (past_mark sorts.ParenClose
    (both (enclosed then_at (statements_show then))
    (past_mark (sorts.Word keywords.Else)
    (otherwise else_at (IsLoneIf else_at else) (statements_show else))))))))
    (statements_show more)
statements_show (Repeats at name class body_at body more) =
    both
    (past_word (sorts.Word keywords.Foreach) at
    (past_mark sorts.ParenOpen
    (both (name_shows name)
    (past_mark (sorts.Word keywords.In)
    (both (name_shows class)
    (past_mark sorts.ParenClose (enclosed body_at (statements_show body))))))))
    (statements_show more)

block_shows : (block : Braces) → Shows (IsBraced block) (AreFineStatements block.statements) (block_nodes block)
block_shows block = enclosed block.at (statements_show block.statements)

-- ---- declarations

part_shows : (part : PredicatePart) → Shows (IsPredicatePart part) (IsFinePart part) (part_nodes part)
part_shows (parts.Parameter typed) = first_of (IsMark sorts.Semicolon) (typed_shows typed)
part_shows (parts.Constraint call) = call_shows call

set_shows : (set : Set) → Shows (IsSet set) (IsFineSet set) (set_nodes set)
set_shows (sets.Field name value) = both (name_shows name)
    (past_mark sorts.Assign (first_of (IsMark sorts.Semicolon) (init_shows value)))
set_shows (sets.Super at arguments) = past_word (sorts.Word keywords.Super) at
    (past_mark sorts.ParenOpen (first_of _ (arguments_show arguments)))

member_shows : (member : Member) → Shows (IsMember member) (IsFineMember member) (member_nodes member)
member_shows (members.Field typed) = first_of (IsMark sorts.Semicolon) (typed_shows typed)
member_shows (members.Predicate at name parts) = past_word (sorts.Word keywords.Predicate) at
    (both (name_shows name)
    (past_mark sorts.BraceOpen (first_of _ (many IsPredicatePart IsFinePart part_nodes part_shows parts))))
member_shows (members.Constructor name formals sets) = both (name_shows name)
    (past_mark sorts.ParenOpen
    (both (listed sorts.Comma IsTyped IsFineTyped typed_nodes typed_shows formals)
    (past_mark sorts.ParenClose
    (past_mark sorts.BraceOpen (first_of (IsMark sorts.BraceClose) (many IsSet IsFineSet set_nodes set_shows sets))))))

file_shows : (file : List ℕ) (at : ℕ) → Shows (IsFile file at) No (at ∷ [])
file_shows file at = record {
  shown = λ symbols is.
      let P : List PlainSymbol → Type 0 = λ s. Picks (at ∷ []) (places_of s) in
      ((λ _. tt), subst P (sym is.only) (inl (is.placed, tt)));
}

parent_shows : (parent : Option Name) → Shows (IsParent parent) (IsFineParent parent) (parent_nodes parent)
parent_shows None = nothing IsNothing
parent_shows (Some name) = past_mark (sorts.Word keywords.Extends) (name_shows name)

members_show : (names : List Name) → Shows (AreSeparated sorts.Comma IsWrittenName names) ((0 < length names) × All IsFineName names) (names_nodes names)
members_show names = same_nodes (AreSeparated sorts.Comma IsWrittenName names) ((0 < length names) × All IsFineName names)
    (flat_map (λ n. n.at ∷ []) names) (names_nodes names) (each_place (λ (n : Name). n.at) names)
    (separated sorts.Comma IsWrittenName IsFineName (λ n. n.at ∷ []) name_shows names)

decl_shows : (decl : Decl) → Shows (IsDecl decl) (IsFineDecl decl) (decl_nodes decl)
decl_shows (decls.Include at file file_at) = past_word sorts.Include at (first_of (MayMark sorts.Semicolon) (file_shows file file_at))
decl_shows (decls.Enum at name members_at members) = past_word (sorts.Word keywords.Enum) at
    (both (name_shows name) (past_word sorts.BraceOpen members_at (first_of _ (members_show members))))
decl_shows (decls.Typedef at declared name) = past_word (sorts.Word keywords.Typedef) at
    (both (type_shows declared) (first_of (IsMark sorts.Semicolon) (name_shows name)))
decl_shows (decls.Forward at name) = past_word (sorts.Word keywords.Class) at (first_of (IsMark sorts.Semicolon) (name_shows name))
decl_shows (decls.Class at name parent members) = past_word (sorts.Word keywords.Class) at
    (both (name_shows name)
    (both (parent_shows parent)
    (past_mark sorts.BraceOpen (first_of _ (many IsMember IsFineMember member_nodes member_shows members)))))
decl_shows (decls.Rule class predicate body) = both (name_shows class)
    (past_mark sorts.DoubleColon (both (name_shows predicate) (block_shows body)))
decl_shows (decls.Variable variable) = variable_shows variable
decl_shows (decls.Call call) = call_shows call
decl_shows (decls.Ask ask) = ask_shows ask

pub text_shows : (decls : List Decl) → Shows (IsText decls) (All IsFineDecl decls) (flat_map decl_nodes decls)
text_shows decls = many IsDecl IsFineDecl decl_nodes decl_shows decls
