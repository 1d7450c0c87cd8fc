-- Trees that are the same have the same words, since places aren't printed.
use Rattle.std.proofs.Common.{◌≡◌, Option, Some, None, List, [], ◌∷◌, ◌++◌, map, refl, sym, ap, ◌∙◌}
use Rattle.std.specs.Option.{option_map}
use Rattle.nddl_grammar.specs.declared.sort.Sort.{Sort}
use Rattle.nddl_grammar.specs.declared.sort.Sort.TheVariants as sorts
use Rattle.nddl_ast.specs.declared.name.Name.{Name}
use Rattle.nddl_ast.specs.declared.expression.Expr.{Expr}
use Rattle.nddl_ast.specs.declared.expression.Expr.TheVariants as exprs
use Rattle.nddl_ast.specs.declared.expression.Value.TheVariants as values
use Rattle.nddl_ast.specs.declared.expression.BaseType.TheVariants as bases
use Rattle.nddl_ast.specs.declared.expression.Bounds.TheVariants as bounds
use Rattle.nddl_ast.specs.declared.expression.Init.{Init}
use Rattle.nddl_ast.specs.declared.expression.Init.TheVariants as inits
use Rattle.nddl_ast.specs.declared.statement.Condition.{Condition}
use Rattle.nddl_ast.specs.declared.statement.Condition.TheVariants as conditions
use Rattle.nddl_ast.specs.declared.declaration.PredicatePart.TheVariants as parts
use Rattle.nddl_ast.specs.declared.declaration.Set.TheVariants as sets
use Rattle.nddl_ast.specs.declared.declaration.Member.TheVariants as members
use Rattle.nddl_ast.specs.declared.declaration.Decl.{Decl}
use Rattle.nddl_ast.specs.declared.declaration.Decl.TheVariants as decls
use Rattle.nddl_ast.specs.Tree.{Nothing, Declares, Calls, Asks, Tests, Chooses, Repeats}
use Rattle.nddl_ast.specs.Same.{AllSame, SameDecl}
use Rattle.nddl_ast.specs.Unplaced.{unplaced_name, unplaced_path, unplaced_expr, unplaced_value, unplaced_base, unplaced_bounds, unplaced_type, unplaced_init, unplaced_variable, unplaced_call, unplaced_ask, unplaced_condition, unplaced_statements, unplaced_typed, unplaced_part, unplaced_set, unplaced_member, unplaced}
use Rattle.nddl_ast.proofs.Equal.{same_is_equal}
use Rattle.nddl_print.specs.Words.{Word, line_of}
use Rattle.nddl_print.specs.Canonical.{◌⌢◌, fixed, braced, many_words, following_words, listed_words, name_words, path_words, expr_words, value_words, argument_words, init_words, base_words, bounds_words, type_words, typed_words, start_words, variable_words, call_words, ask_words, condition_words, if_words, statements_words, part_words, set_words, member_words, parent_words, decl_words, spelling_of}

-- what has the same words without its places
abbrev Unplaces : {X : Type 0} → (X → X) → (X → List Word) → Type 0
Unplaces {X = X} f words = (x : X) → words (f x) ≡ words x

two : {a b c d : List Word} → a ≡ b → c ≡ d → a ⌢ c ≡ b ⌢ d
two p q = λ i. p i ⌢ q i

many_unplaced : {X : Type 0} (f : X → X) (words : X → List Word) → Unplaces f words → (xs : List X) → many_words words (map f xs) ≡ many_words words xs
many_unplaced f words each [] = refl
many_unplaced f words each (x ∷ xs) = two (each x) (many_unplaced f words each xs)

following_unplaced : {X : Type 0} (sort : Sort) (f : X → X) (words : X → List Word) → Unplaces f words → (xs : List X) → following_words sort words (map f xs) ≡ following_words sort words xs
following_unplaced sort f words each xs = many_unplaced f (λ x. fixed sort ⌢ words x) (λ x. two refl (each x)) xs

listed_unplaced : {X : Type 0} (f : X → X) (words : X → List Word) → Unplaces f words → (xs : List X) → listed_words words (map f xs) ≡ listed_words words xs
listed_unplaced f words each [] = refl
listed_unplaced f words each (x ∷ xs) = two (each x) (following_unplaced sorts.Comma f words each xs)

path_unplaced : Unplaces unplaced_path path_words
path_unplaced path = two refl (following_unplaced sorts.Point unplaced_name name_words (λ name. refl) path.rest)

expr_unplaced : Unplaces unplaced_expr expr_words
expr_unplaced (exprs.Path path) = path_unplaced path
expr_unplaced (exprs.Literal literal) = refl

value_unplaced : Unplaces unplaced_value value_words
value_unplaced (values.Name name) = refl
value_unplaced (values.Literal literal) = refl

arguments_unplaced : (arguments : List Expr) → argument_words (map unplaced_expr arguments) ≡ argument_words arguments
arguments_unplaced arguments = two refl (two (listed_unplaced unplaced_expr expr_words expr_unplaced arguments) refl)

init_unplaced : Unplaces unplaced_init init_words
init_unplaced (inits.Expr expr) = expr_unplaced expr
init_unplaced (inits.New creation) = two refl (two refl (arguments_unplaced creation.arguments))

base_unplaced : Unplaces unplaced_base base_words
base_unplaced bases.Int = refl
base_unplaced bases.Float = refl
base_unplaced bases.Bool = refl
base_unplaced bases.Str = refl
base_unplaced (bases.Named name) = refl

bounds_unplaced : Unplaces unplaced_bounds bounds_words
bounds_unplaced bounds.All = refl
bounds_unplaced (bounds.Range at least greatest) = two refl (two (value_unplaced least) (two (value_unplaced greatest) refl))
bounds_unplaced (bounds.Set at values) = two refl (two (listed_unplaced unplaced_value value_words value_unplaced values) refl)

type_unplaced : Unplaces unplaced_type type_words
type_unplaced of = two (base_unplaced of.base) (bounds_unplaced of.bounds)

typed_unplaced : Unplaces unplaced_typed typed_words
typed_unplaced typed = two (type_unplaced typed.declared) refl

start_unplaced : (init : Option Init) → start_words (option_map unplaced_init init) ≡ start_words init
start_unplaced None = refl
start_unplaced (Some init) = two refl (init_unplaced init)

variable_unplaced : Unplaces unplaced_variable variable_words
variable_unplaced variable = two (type_unplaced variable.declared) (two refl (two (start_unplaced variable.init) refl))

call_unplaced : Unplaces unplaced_call call_words
call_unplaced call = two (path_unplaced call.path) (two (arguments_unplaced call.arguments) refl)

ask_unplaced : Unplaces unplaced_ask ask_words
ask_unplaced ask = two refl (two refl (two (path_unplaced ask.path) refl))

condition_unplaced : Unplaces unplaced_condition condition_words
condition_unplaced (conditions.Truth expr) = expr_unplaced expr
condition_unplaced (conditions.Equal one other) = two (expr_unplaced one) (two refl (expr_unplaced other))
condition_unplaced (conditions.NotEqual one other) = two (expr_unplaced one) (two refl (expr_unplaced other))

if_unplaced : (condition : Condition) → if_words (unplaced_condition condition) ≡ if_words condition
if_unplaced condition = two refl (two refl (two (condition_unplaced condition) refl))

braced_as : {a b : List Word} → a ≡ b → braced a ≡ braced b
braced_as p = two refl (two p refl)

statements_unplaced : Unplaces unplaced_statements statements_words
statements_unplaced Nothing = refl
statements_unplaced (Declares v more) = two (variable_unplaced v) (statements_unplaced more)
statements_unplaced (Calls c more) = two (call_unplaced c) (statements_unplaced more)
statements_unplaced (Asks a more) = two (ask_unplaced a) (statements_unplaced more)
statements_unplaced (Tests at condition then_at then more) = two (two (if_unplaced condition) (braced_as (statements_unplaced then))) (statements_unplaced more)
statements_unplaced (Chooses at condition then_at then else_at else more) =
    two (two (if_unplaced condition) (two (braced_as (statements_unplaced then)) (two refl (braced_as (statements_unplaced else))))) (statements_unplaced more)
statements_unplaced (Repeats at name class body_at body more) = two (two refl (braced_as (statements_unplaced body))) (statements_unplaced more)

part_unplaced : Unplaces unplaced_part part_words
part_unplaced (parts.Parameter typed) = two (typed_unplaced typed) refl
part_unplaced (parts.Constraint call) = call_unplaced call

set_unplaced : Unplaces unplaced_set set_words
set_unplaced (sets.Field name value) = two refl (two refl (two (init_unplaced value) refl))
set_unplaced (sets.Super at arguments) = two refl (two (arguments_unplaced arguments) refl)

member_unplaced : Unplaces unplaced_member member_words
member_unplaced (members.Field typed) = two (typed_unplaced typed) refl
member_unplaced (members.Predicate at name body) = two refl (two refl (braced_as (many_unplaced unplaced_part part_words part_unplaced body)))
member_unplaced (members.Constructor name formals body) =
    two refl (two (two refl (two (listed_unplaced unplaced_typed typed_words typed_unplaced formals) refl)) (braced_as (many_unplaced unplaced_set set_words set_unplaced body)))

parent_unplaced : (parent : Option Name) → parent_words (option_map unplaced_name parent) ≡ parent_words parent
parent_unplaced None = refl
parent_unplaced (Some name) = refl

decl_unplaced : Unplaces unplaced decl_words
decl_unplaced (decls.Include at file file_at) = refl
decl_unplaced (decls.Enum at name members_at names) = two refl (two refl (braced_as (listed_unplaced unplaced_name name_words (λ name. refl) names)))
decl_unplaced (decls.Typedef at declared name) = two refl (two (type_unplaced declared) refl)
decl_unplaced (decls.Forward at name) = refl
decl_unplaced (decls.Class at name parent body) = two refl (two refl (two (parent_unplaced parent) (braced_as (many_unplaced unplaced_member member_words member_unplaced body))))
decl_unplaced (decls.Rule class predicate body) = two refl (two refl (two refl (braced_as (statements_unplaced body.statements))))
decl_unplaced (decls.Variable variable) = variable_unplaced variable
decl_unplaced (decls.Call call) = call_unplaced call
decl_unplaced (decls.Ask ask) = ask_unplaced ask

decl_alike : (one other : Decl) → SameDecl one other → decl_words one ≡ decl_words other
decl_alike one other same = sym (decl_unplaced one) ∙ (ap decl_words ((same_is_equal one other).0 same) ∙ decl_unplaced other)

pub spelled_alike : (one other : List Decl) → AllSame SameDecl one other → spelling_of one ≡ spelling_of other
spelled_alike [] [] same = refl
spelled_alike [] (y ∷ ys) same = absurd same
spelled_alike (x ∷ xs) [] same = absurd same
spelled_alike (x ∷ xs) (y ∷ ys) same = λ i. line_of (decl_alike x y same.0 i) ++ spelled_alike xs ys same.1 i
