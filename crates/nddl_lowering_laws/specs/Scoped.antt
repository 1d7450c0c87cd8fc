-- Where the text of a rule declares things, and that its names are read as they are seen.
use Rattle.std.specs.Prelude.{◌≡◌, ℕ, true, ⊤, List, [], ◌∷◌, ◌++◌, Option, Some, None, is_some, length, slice_get}
use Rattle.domain_core.specs.declared.kind.Kind.{Kind}
use Rattle.nddl_ast.specs.declared.expression.Expr.{Expr}
use Rattle.nddl_ast.specs.declared.expression.Expr.TheVariants as exprs
use Rattle.nddl_ast.specs.declared.expression.Init.{Init}
use Rattle.nddl_ast.specs.declared.expression.Init.TheVariants as inits
use Rattle.nddl_ast.specs.declared.name.Name.{Name}
use Rattle.nddl_ast.specs.declared.statement.Call.{Call}
use Rattle.nddl_ast.specs.declared.statement.Condition.{Condition}
use Rattle.nddl_ast.specs.declared.statement.Condition.TheVariants as conditions
use Rattle.nddl_ast.specs.Tree.{Statements, Nothing, Declares, Calls, Asks, Tests, Chooses, Repeats}
use Rattle.nddl_rule_check.specs.Constraints.{constraint_named, relation_named, takes}
use Rattle.nddl_terms.specs.declared.tree.ReadName.{ReadName}
use Rattle.nddl_terms.specs.Names.{name_read_at}
use Rattle.nddl_rules.specs.declared.sight.Tally.{Tally}
use Rattle.nddl_rules.specs.Blocks.{call_tally, tallied}
use Rattle.nddl_rules.specs.Reads.{NameSources, front_meaning}
use Rattle.nddl_rules.specs.Sight.{Sight, with_label, with_rule_local, with_turn}
use Rattle.nddl_rules.specs.Tally.{local_more, slot_more, turn_more}
use Rattle.nddl_unroll.specs.Places.{call_place}

-- ---- places

-- where statements declare locals, in order of the text
abbrev pub local_places : Statements → List ℕ
local_places Nothing = []
local_places (Declares variable more) = variable.name.at ∷ local_places more
local_places (Calls call more) = local_places more
local_places (Asks ask more) = local_places more
local_places (Tests at condition then_at inside more) = local_places inside ++ local_places more
local_places (Chooses at condition then_at inside else_at other more) =
    local_places inside ++ (local_places other ++ local_places more)
local_places (Repeats at name class body_at body more) = local_places body ++ local_places more

-- where they ask for slots
abbrev pub slot_places : Statements → List ℕ
slot_places Nothing = []
slot_places (Declares variable more) = slot_places more
slot_places (Calls call more) = call_place call ++ slot_places more
slot_places (Asks ask more) = ask.label.at ∷ slot_places more
slot_places (Tests at condition then_at inside more) = slot_places inside ++ slot_places more
slot_places (Chooses at condition then_at inside else_at other more) =
    slot_places inside ++ (slot_places other ++ slot_places more)
slot_places (Repeats at name class body_at body more) = slot_places body ++ slot_places more

-- no two of the places are the same
abbrev pub AreApart : List ℕ → Type 0
AreApart places = (one other at : ℕ) → slice_get places one ≡ Some at → slice_get places other ≡ Some at → one ≡ other

-- ---- calls

-- a call that is a relation has one argument, and one that is a constraint has as many as this may have
pub record IsFineCall (call : Call) : Type 0 where
  pub relation : is_some (relation_named call.path.first.text) ≡ true → (expr : Expr) × (call.arguments ≡ expr ∷ [])
  pub constraint : (kind : Kind) → relation_named call.path.first.text ≡ None → constraint_named call.path.first.text ≡ Some kind
      → takes kind (length call.arguments) ≡ true

-- each call is so, and what gets a label is a relation
abbrev pub HasFineCalls : Statements → Type 0
HasFineCalls Nothing = ⊤
HasFineCalls (Declares variable more) = HasFineCalls more
HasFineCalls (Calls call more) = IsFineCall call × HasFineCalls more
HasFineCalls (Asks ask more) = (is_some (relation_named ask.word.text) ≡ true) × HasFineCalls more
HasFineCalls (Tests at condition then_at inside more) = HasFineCalls inside × HasFineCalls more
HasFineCalls (Chooses at condition then_at inside else_at other more) =
    HasFineCalls inside × (HasFineCalls other × HasFineCalls more)
HasFineCalls (Repeats at name class body_at body more) = HasFineCalls body × HasFineCalls more

-- ---- names

-- at its place the name is read as what it means by what is seen there
abbrev pub IsFirstRead : List ReadName → NameSources → Sight → Name → Type 0
IsFirstRead names sources sight name = name_read_at name.at names ≡ front_meaning sources sight name.text

abbrev pub IsExprRead : List ReadName → NameSources → Sight → Expr → Type 0
IsExprRead names sources sight (exprs.Path path) = IsFirstRead names sources sight path.first
IsExprRead names sources sight (exprs.Literal literal) = ⊤

abbrev pub AreExprsRead : List ReadName → NameSources → Sight → List Expr → Type 0
AreExprsRead names sources sight [] = ⊤
AreExprsRead names sources sight (expr ∷ more) = IsExprRead names sources sight expr × AreExprsRead names sources sight more

abbrev pub IsInitRead : List ReadName → NameSources → Sight → Option Init → Type 0
IsInitRead names sources sight None = ⊤
IsInitRead names sources sight (Some (inits.Expr expr)) = IsExprRead names sources sight expr
IsInitRead names sources sight (Some (inits.New creation)) = ⊤

abbrev pub IsConditionRead : List ReadName → NameSources → Sight → Condition → Type 0
IsConditionRead names sources sight (conditions.Truth expr) = IsExprRead names sources sight expr
IsConditionRead names sources sight (conditions.Equal one other) =
    IsExprRead names sources sight one × IsExprRead names sources sight other
IsConditionRead names sources sight (conditions.NotEqual one other) =
    IsExprRead names sources sight one × IsExprRead names sources sight other

-- a predicate alone isn't looked up
abbrev pub IsAskedRead : List ReadName → NameSources → Sight → Name → List Name → Type 0
IsAskedRead names sources sight first [] = ⊤
IsAskedRead names sources sight first (name ∷ more) = IsFirstRead names sources sight first

-- It is so of each name at the front of a path in the statements, where these are seen and so many turns, locals and slots stand
-- before.
abbrev pub AreRead : List ReadName → NameSources → Sight → Tally → Statements → Type 0
AreRead names sources sight tally Nothing = ⊤
AreRead names sources sight tally (Declares variable more) =
    IsInitRead names sources sight variable.init
    × AreRead names sources (with_rule_local sight variable.name.text tally.locals) (local_more tally) more
AreRead names sources sight tally (Calls call more) =
    AreExprsRead names sources sight call.arguments × AreRead names sources sight (call_tally tally call) more
AreRead names sources sight tally (Asks ask more) =
    IsAskedRead names sources sight ask.path.first ask.path.rest
    × AreRead names sources (with_label sight ask.label.text tally.slots) (slot_more tally) more
AreRead names sources sight tally (Tests at condition then_at inside more) =
    IsConditionRead names sources sight condition
    × (AreRead names sources sight tally inside × AreRead names sources sight (tallied tally inside) more)
AreRead names sources sight tally (Chooses at condition then_at inside else_at other more) =
    IsConditionRead names sources sight condition
    × (AreRead names sources sight tally inside
    × (AreRead names sources sight (tallied tally inside) other
    × AreRead names sources sight (tallied (tallied tally inside) other) more))
AreRead names sources sight tally (Repeats at name class body_at body more) =
    AreRead names sources (with_turn sight name.text tally.turns) (turn_more tally) body
    × AreRead names sources sight (tallied (turn_more tally) body) more
