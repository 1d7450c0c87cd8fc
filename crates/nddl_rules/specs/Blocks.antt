-- The names that are read in the blocks of a rule, and what is numbered there.
use Rattle.std.specs.Prelude.{◌≡◌, Bool, true, false, ◌&&◌, List, [], ◌∷◌, ◌++◌, is_some}
use Rattle.std.specs.List.{list_any}
use Rattle.nddl_rule_check.specs.Constraints.{relation_named}
use Rattle.nddl_ast.specs.declared.expression.Expr.{Expr}
use Rattle.nddl_ast.specs.declared.expression.Expr.TheVariants as exprs
use Rattle.nddl_ast.specs.declared.name.Name.{Name}
use Rattle.nddl_ast.specs.declared.statement.Call.{Call}
use Rattle.nddl_ast.specs.Tree.{Statements, Nothing, Declares, Calls, Asks, Tests, Chooses, Repeats}
use Rattle.nddl_terms.specs.declared.tree.ReadName.{ReadName}
use Rattle.nddl_rules.specs.declared.sight.Tally.{Tally}
use Rattle.nddl_rules.specs.Reads.{NameSources, asked_read, condition_read, exprs_read, local_read, scope_read}
use Rattle.nddl_rules.specs.Sight.{Sight, SeesFurther, with_label, with_rule_local, with_turn}
use Rattle.nddl_rules.specs.Tally.{local_more, slot_more, turn_more}

-- ---- numbers

abbrev pub has_more : List Name → Bool
has_more [] = false
has_more (name ∷ more) = true

-- the argument is a path of several names
abbrev pub is_long_path : Expr → Bool
is_long_path (exprs.Path path) = has_more path.rest
is_long_path (exprs.Literal literal) = false

abbrev pub has_long_path : List Expr → Bool
has_long_path some = list_any is_long_path some

-- the call is a relation with a token that gets no label
abbrev pub asks_slot : Call → Bool
asks_slot call = is_some (relation_named call.path.first.text) && has_long_path call.arguments

-- with one slot more, if there is one
abbrev pub slot_if : Bool → Tally → Tally
slot_if true tally = slot_more tally
slot_if false tally = tally

-- with the slot for which the call asks, if it does
abbrev pub call_tally : Tally → Call → Tally
call_tally tally call = slot_if (asks_slot call) tally

-- how many turns, locals and slots there are behind the statements, those in inner blocks too
abbrev pub tallied : Tally → Statements → Tally
tallied tally Nothing = tally
tallied tally (Declares variable more) = tallied (local_more tally) more
tallied tally (Calls call more) = tallied (call_tally tally call) more
tallied tally (Asks ask more) = tallied (slot_more tally) more
tallied tally (Tests at condition then_at then more) = tallied (tallied tally then) more
tallied tally (Chooses at condition then_at then else_at else more) = tallied (tallied (tallied tally then) else) more
tallied tally (Repeats at name class body_at body more) = tallied (tallied (turn_more tally) body) more

-- ---- names

-- The names that are read in the statements of a block, in order, where these are seen and so many turns, locals and slots
-- stand before. Locals and labels are seen behind their statement, in the block and in blocks inside it.
abbrev pub block_names : NameSources → Sight → Tally → Statements → List ReadName
block_names sources sight tally Nothing = []
block_names sources sight tally (Declares variable more) =
    local_read sources sight variable
    ++ block_names sources (with_rule_local sight variable.name.text tally.locals) (local_more tally) more
block_names sources sight tally (Calls call more) =
    exprs_read sources sight call.arguments ++ block_names sources sight (call_tally tally call) more
block_names sources sight tally (Asks ask more) =
    asked_read sources sight ask.path.first ask.path.rest
    ++ block_names sources (with_label sight ask.label.text tally.slots) (slot_more tally) more
block_names sources sight tally (Tests at condition then_at then more) =
    condition_read sources sight condition
    ++ (block_names sources sight tally then ++ block_names sources sight (tallied tally then) more)
block_names sources sight tally (Chooses at condition then_at then else_at else more) =
    let behind = tallied tally then in
    condition_read sources sight condition
    ++ (block_names sources sight tally then
    ++ (block_names sources sight behind else ++ block_names sources sight (tallied behind else) more))
block_names sources sight tally (Repeats at name class body_at body more) =
    scope_read sources.scope class
    ++ (block_names sources (with_turn sight name.text tally.turns) (turn_more tally) body
    ++ block_names sources sight (tallied (turn_more tally) body) more)

-- ---- one statement after another

-- Some of the statements have been dealt with, so that these names and numbers came and these names are seen: with those of
-- the statements that are left they are the names and the numbers of all.
pub record ReadsTo (sources : NameSources) (old_sight sight : Sight) (old_tally tally : Tally) (old_names names : List ReadName)
    (statements left : Statements) : Type 0 where
  pub names_are : names ++ block_names sources sight tally left ≡ old_names ++ block_names sources old_sight old_tally statements
  pub tally_is : tallied tally left ≡ tallied old_tally statements
  pub sees : SeesFurther old_sight sight
