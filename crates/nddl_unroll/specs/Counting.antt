-- How much the text of a rule unrolls into.
use Rattle.std.specs.Prelude.{ℕ, ◌-◌, List, [], ◌∷◌, Option, Some, length, if◌then◌else◌}
use Rattle.std.specs.Option.{option_map_or}
use Rattle.domain_core.specs.declared.kind.Kind.{Kind}
use Rattle.domain_core.specs.declared.kind.Kind.TheVariants.{AllDiff}
use Rattle.nddl_ast.specs.declared.expression.Expr.{Expr}
use Rattle.nddl_ast.specs.declared.expression.Expr.TheVariants as exprs
use Rattle.nddl_ast.specs.declared.expression.Init.{Init}
use Rattle.nddl_ast.specs.declared.expression.Init.TheVariants as inits
use Rattle.nddl_ast.specs.declared.name.Name.{Name}
use Rattle.nddl_ast.specs.declared.name.Path.{Path}
use Rattle.nddl_ast.specs.declared.statement.Ask.{Ask}
use Rattle.nddl_ast.specs.declared.statement.Call.{Call}
use Rattle.nddl_ast.specs.declared.statement.Condition.{Condition}
use Rattle.nddl_ast.specs.declared.statement.Condition.TheVariants as conditions
use Rattle.nddl_ast.specs.Tree.{Statements, Nothing, Declares, Calls, Asks, Tests, Chooses, Repeats}
use Rattle.nddl_rule_check.specs.Constraints.{constraint_named, relation_named}
use Rattle.nddl_terms.specs.declared.tree.Meaning.{Meaning}
use Rattle.nddl_terms.specs.declared.tree.Meaning.TheVariants as meanings
use Rattle.nddl_terms.specs.declared.tree.ReadName.{ReadName}
use Rattle.nddl_terms.specs.PlainTree.{PlainTree}
use Rattle.nddl_terms.specs.declared.lexicon.Lexicon.{Lexicon}
use Rattle.nddl_terms.specs.declared.stands.Stand.{Stand}
use Rattle.nddl_terms.specs.declared.stands.Stand.TheVariants as stands
use Rattle.nddl_terms.specs.Lexicon.{class_objects}
use Rattle.nddl_terms.specs.Names.{name_read_at}
use Rattle.nddl_terms.specs.Stands.{file_stand}
use Rattle.nddl_unroll.specs.declared.amounts.Amounts.{Amounts}
use Rattle.nddl_unroll.specs.Amounts.{amounts_and, amounts_times, no_amounts, one_guard, one_local, one_slot, plus}
use Rattle.nddl_unroll.specs.Amounts.{some_items, some_reads, some_turns}
use Rattle.nddl_unroll.specs.Reads.{all_reads, begins_with_class, expr_reads, front_reads}

-- ---- constraints

-- how many two there are among these
abbrev pub pairs_of : List Expr → ℕ → ℕ
pairs_of [] total = total
pairs_of (expr ∷ more) total = pairs_of more (plus total (length more))

-- how many items a constraint with these arguments is: where all differ, one for each two
abbrev pub constraint_count : Kind → List Expr → ℕ
constraint_count AllDiff some = pairs_of some 0
constraint_count kind some = 1

abbrev pub constraint_amounts : Lexicon → List ReadName → Kind → List Expr → Amounts
constraint_amounts lexicon names kind some =
    amounts_and (some_reads (all_reads lexicon names some 0)) (some_items (constraint_count kind some))

-- ---- relations

-- a relation to a token of a predicate alone
abbrev pub own_amounts : Amounts
own_amounts = amounts_and one_slot (some_items 1)

-- A relation to a token for which a path asks. Where it doesn't begin with a class, what the token's object equals is an item
-- too.
abbrev pub asked_amounts : Lexicon → List ReadName → Path → Amounts
asked_amounts lexicon names path =
    amounts_and (some_reads (front_reads lexicon names path (length path.rest - 1)))
    (amounts_and one_slot (some_items (if begins_with_class lexicon names path then 1 else 2)))

-- a relation to what these names lead to: one name is a label
abbrev pub related_amounts : Lexicon → List ReadName → Path → List Name → Amounts
related_amounts lexicon names path [] = some_items 1
related_amounts lexicon names path (name ∷ more) = asked_amounts lexicon names path

abbrev pub relation_amounts : Lexicon → List ReadName → List Expr → Amounts
relation_amounts lexicon names (exprs.Path path ∷ []) = related_amounts lexicon names path path.rest
relation_amounts lexicon names some = no_amounts

-- the same where a label is given
abbrev pub labelled_amounts : Lexicon → List ReadName → Path → List Name → Amounts
labelled_amounts lexicon names path [] = own_amounts
labelled_amounts lexicon names path (name ∷ more) = asked_amounts lexicon names path

-- ---- single statements

abbrev pub named_amounts : Lexicon → List ReadName → Name → List Expr → Amounts
named_amounts lexicon names word some =
    option_map_or (λ kind. constraint_amounts lexicon names kind some) (constraint_named word.text) no_amounts

abbrev pub call_amounts : Lexicon → List ReadName → Call → Amounts
call_amounts lexicon names call =
    option_map_or (λ relation. relation_amounts lexicon names call.arguments) (relation_named call.path.first.text)
    (named_amounts lexicon names call.path.first call.arguments)

abbrev pub ask_amounts : Lexicon → List ReadName → Ask → Amounts
ask_amounts lexicon names ask =
    option_map_or (λ relation. labelled_amounts lexicon names ask.path ask.path.rest) (relation_named ask.word.text) no_amounts

-- a local, with the item that it equals what it begins as
abbrev pub local_amounts : Lexicon → List ReadName → Option Init → Amounts
local_amounts lexicon names (Some (inits.Expr expr)) =
    amounts_and (some_reads (expr_reads lexicon names expr)) (amounts_and one_local (some_items 1))
local_amounts lexicon names init = one_local

-- how many fields an `if` reads
abbrev pub condition_reads : Lexicon → List ReadName → Condition → ℕ
condition_reads lexicon names (conditions.Truth expr) = expr_reads lexicon names expr
condition_reads lexicon names (conditions.Equal one other) = plus (expr_reads lexicon names one) (expr_reads lexicon names other)
condition_reads lexicon names (conditions.NotEqual one other) =
    plus (expr_reads lexicon names one) (expr_reads lexicon names other)

abbrev pub guard_amounts : Lexicon → List ReadName → Condition → Amounts
guard_amounts lexicon names condition = amounts_and (some_reads (condition_reads lexicon names condition)) one_guard

-- ---- turns

abbrev pub class_turns : Lexicon → ℕ → ℕ
class_turns lexicon class = length (class_objects lexicon class)

abbrev pub stand_count : Lexicon → Option Stand → ℕ
stand_count lexicon (Some (stands.Class class)) = class_turns lexicon class
stand_count lexicon stand = 0

-- how many objects the class has that this means
abbrev pub turn_count : Lexicon → Option Meaning → ℕ
turn_count lexicon (Some (meanings.Scope place)) = stand_count lexicon (file_stand lexicon place)
turn_count lexicon (Some (meanings.BuiltIn class)) = class_turns lexicon class
turn_count lexicon meaning = 0

-- a `foreach` with so many turns, of which each has so much
abbrev pub turns_amounts : ℕ → Amounts → Amounts
turns_amounts count inside = amounts_and (some_turns count) (amounts_times count inside)

-- ---- statements

-- How much there is with these statements, where there is so much before them: both blocks of an `if`, and the block of a
-- `foreach` once for each object.
abbrev pub counted_with : Lexicon → List ReadName → Statements → Amounts → Amounts
counted_with lexicon names Nothing total = total
counted_with lexicon names (Declares variable more) total =
    counted_with lexicon names more (amounts_and total (local_amounts lexicon names variable.init))
counted_with lexicon names (Calls call more) total =
    counted_with lexicon names more (amounts_and total (call_amounts lexicon names call))
counted_with lexicon names (Asks ask more) total = counted_with lexicon names more (amounts_and total (ask_amounts lexicon names ask))
counted_with lexicon names (Tests at condition then_at inside more) total =
    counted_with lexicon names more
    (counted_with lexicon names inside (amounts_and total (guard_amounts lexicon names condition)))
counted_with lexicon names (Chooses at condition then_at inside else_at other more) total =
    counted_with lexicon names more
    (counted_with lexicon names other
    (counted_with lexicon names inside (amounts_and total (guard_amounts lexicon names condition))))
counted_with lexicon names (Repeats at name class body_at body more) total =
    counted_with lexicon names more
    (amounts_and total (turns_amounts (turn_count lexicon (name_read_at class.at names)) (counted_with lexicon names body no_amounts)))

-- how much the rule of this text has
abbrev pub tree_amounts : Lexicon → PlainTree → Amounts
tree_amounts lexicon tree = counted_with lexicon tree.names tree.body no_amounts
