-- That all that is read in the text of a rule means something where the rule is unrolled.
use Rattle.std.specs.Prelude.{⊤, List, [], ◌∷◌, ◌++◌, Option, Some, IfSome, IsSome, MatchOption}
use Rattle.model_core.specs.declared.class.Object.{Object}
use Rattle.model_core.specs.declared.item.Term.TheVariants as terms
use Rattle.model_core.specs.declared.rule.Entry.TheVariants as entries
use Rattle.model_core.specs.Block.{plain_entries}
use Rattle.nddl_ast.specs.declared.expression.Expr.{Expr}
use Rattle.nddl_ast.specs.declared.expression.Expr.TheVariants as exprs
use Rattle.nddl_ast.specs.declared.expression.Init.{Init}
use Rattle.nddl_ast.specs.declared.expression.Init.TheVariants as inits
use Rattle.nddl_ast.specs.declared.name.Name.{Name}
use Rattle.nddl_ast.specs.declared.name.Path.{Path}
use Rattle.nddl_ast.specs.declared.statement.Ask.{Ask}
use Rattle.nddl_ast.specs.declared.statement.Call.{Call}
use Rattle.nddl_ast.specs.declared.statement.Condition.{Condition}
use Rattle.nddl_ast.specs.declared.statement.Condition.TheVariants as conditions
use Rattle.nddl_ast.specs.Tree.{Statements, Nothing, Declares, Calls, Asks, Tests, Chooses, Repeats}
use Rattle.nddl_rule_check.specs.Constraints.{constraint_named, relation_named}
use Rattle.nddl_terms.specs.PlainTree.{PlainTree}
use Rattle.nddl_terms.specs.declared.growth.Growth.{Growth}
use Rattle.nddl_terms.specs.declared.lexicon.Lexicon.{Lexicon}
use Rattle.nddl_terms.specs.declared.stands.Made.{Made}
use Rattle.nddl_terms.specs.declared.stands.Stand.{Stand}
use Rattle.nddl_terms.specs.declared.stands.Stand.TheVariants as stands
use Rattle.nddl_terms.specs.Growth.{no_growth, with_last_entry}
use Rattle.nddl_terms.specs.Paths.{path_stand}
use Rattle.nddl_terms.specs.Readings.{Readings}
use Rattle.nddl_terms.specs.Stands.{first_stand}
use Rattle.nddl_lower.specs.Arguments.{argument, condition_guard}
use Rattle.nddl_lower.specs.Calls.{with_ask, with_call}
use Rattle.nddl_lower.specs.Locals.{with_text_local}
use Rattle.nddl_lower.specs.Slots.{asked_labelled, asked_path}
use Rattle.nddl_unroll.specs.Blocks.{all_turns, back_in, filled_block, in_block, stand_turns, turn_of, unrolled}
use Rattle.nddl_unroll.specs.Rules.{tree_readings}

-- ---- names and paths

abbrev pub IsSomething : Stand → Type 0
IsSomething stands.Nothing = ⊥
IsSomething stand = ⊤

abbrev pub IsSlotStand : Stand → Type 0
IsSlotStand (stands.Slot number pred) = ⊤
IsSlotStand stand = ⊥

-- what begins as this leads to something, or is known: no field of a known object is read of a variable
abbrev pub IsLed : Stand → Stand → Type 0
IsLed (stands.Value (terms.Lit value) kind class) end = ⊤
IsLed begin end = IsSomething end

-- ---- arguments

-- an argument leads to something, or is known
abbrev pub IsExprMeant : Readings → List Made → Expr → Growth → Type 0
IsExprMeant reading turns (exprs.Path path) growth =
    IsLed (first_stand reading turns growth path.first.at) (path_stand reading turns path growth).stand
IsExprMeant reading turns (exprs.Literal literal) growth = ⊤

-- each of several does, one after another
abbrev pub AreExprsMeant : Readings → List Made → List Expr → Growth → Type 0
AreExprsMeant reading turns [] growth = ⊤
AreExprsMeant reading turns (expr ∷ more) growth =
    IsExprMeant reading turns expr growth × AreExprsMeant reading turns more (argument reading turns expr growth).growth

abbrev pub AreBothMeant : Readings → List Made → Expr → Expr → Growth → Type 0
AreBothMeant reading turns one other growth =
    IsExprMeant reading turns one growth × IsExprMeant reading turns other (argument reading turns one growth).growth

abbrev pub IsConditionMeant : Readings → List Made → Condition → Growth → Type 0
IsConditionMeant reading turns (conditions.Truth expr) growth = IsExprMeant reading turns expr growth
IsConditionMeant reading turns (conditions.Equal one other) growth = AreBothMeant reading turns one other growth
IsConditionMeant reading turns (conditions.NotEqual one other) growth = AreBothMeant reading turns one other growth

abbrev pub IsInitMeant : Readings → List Made → Option Init → Growth → Type 0
IsInitMeant reading turns (Some (inits.Expr expr)) growth = IsExprMeant reading turns expr growth
IsInitMeant reading turns init growth = ⊤

-- ---- relations and calls

-- one name is the label of a slot, and more ask for a token of a predicate that there is
abbrev pub IsRelatedMeant : Readings → List Made → Path → List Name → Growth → Type 0
IsRelatedMeant reading turns path [] growth = IsSlotStand (first_stand reading turns growth path.first.at)
IsRelatedMeant reading turns path (name ∷ more) growth = IsSome (asked_path reading turns path growth).wanted.pred

abbrev pub IsRelationMeant : Readings → List Made → List Expr → Growth → Type 0
IsRelationMeant reading turns (exprs.Path path ∷ []) growth = IsRelatedMeant reading turns path path.rest growth
IsRelationMeant reading turns some growth = ⊤

abbrev pub IsConstraintMeant : Readings → List Made → Name → List Expr → Growth → Type 0
IsConstraintMeant reading turns word some growth = IfSome (constraint_named word.text) (λ kind. AreExprsMeant reading turns some growth)

abbrev pub IsCallMeant : Readings → List Made → Call → Growth → Type 0
IsCallMeant reading turns call growth =
    MatchOption (relation_named call.path.first.text) (IsConstraintMeant reading turns call.path.first call.arguments growth)
    (λ relation. IsRelationMeant reading turns call.arguments growth)

abbrev pub IsAskMeant : Readings → List Made → Ask → Growth → Type 0
IsAskMeant reading turns ask growth =
    IfSome (relation_named ask.word.text)
    (λ relation. IsSome (asked_labelled reading turns ask.path ask.path.rest growth).wanted.pred)

-- ---- statements

-- it is so in each turn, one after another
abbrev pub InEachTurn : (Stand → Growth → Type 0) → (Stand → Growth → Growth) → List Stand → Growth → Type 0
InEachTurn P turn [] growth = ⊤
InEachTurn P turn (object ∷ more) growth = P object growth × InEachTurn P turn more (turn object growth)

-- All that is read in these statements means something, in these turns and with what the rule has before them: an argument leads
-- to something, a label stands for a slot, and a token is asked of a predicate. As in `unrolled`, each statement comes behind what
-- those before it stand for.
abbrev pub AreMeant : Readings → List Made → Statements → Growth → Type 0
AreMeant reading turns Nothing growth = ⊤
AreMeant reading turns (Declares variable more) growth =
    IsInitMeant reading turns variable.init growth
    × AreMeant reading turns more (with_text_local reading turns variable growth)
AreMeant reading turns (Calls call more) growth =
    IsCallMeant reading turns call growth × AreMeant reading turns more (with_call reading turns call growth)
AreMeant reading turns (Asks ask more) growth =
    IsAskMeant reading turns ask growth × AreMeant reading turns more (with_ask reading turns ask growth)
AreMeant reading turns (Tests at condition then_at then more) growth =
    let tested = condition_guard reading turns condition growth in
    let filled = unrolled reading turns then (in_block tested.growth) in
    IsConditionMeant reading turns condition growth
    × (AreMeant reading turns then (in_block tested.growth)
    × AreMeant reading turns more
    (with_last_entry (entries.Branch tested.guard (filled_block filled) (plain_entries [])) (back_in tested.growth.entries filled)))
AreMeant reading turns (Chooses at condition then_at then else_at else more) growth =
    let tested = condition_guard reading turns condition growth in
    let filled = unrolled reading turns then (in_block tested.growth) in
    let other = unrolled reading turns else (in_block filled) in
    IsConditionMeant reading turns condition growth
    × (AreMeant reading turns then (in_block tested.growth)
    × (AreMeant reading turns else (in_block filled)
    × AreMeant reading turns more
    (with_last_entry (entries.Branch tested.guard (filled_block filled) (filled_block other)) (back_in tested.growth.entries other))))
AreMeant reading turns (Repeats at name class body_at body more) growth =
    let turn : Stand → Growth → Growth = λ object inner. unrolled reading (turns ++ turn_of name object ∷ []) body inner in
    let objects = stand_turns reading.lexicon (first_stand reading turns growth class.at) in
    InEachTurn (λ object inner. AreMeant reading (turns ++ turn_of name object ∷ []) body inner) turn objects growth
    × AreMeant reading turns more (all_turns turn objects growth)

-- all that is read in the text of a rule means something, from where the rule has nothing
abbrev pub IsTreeMeant : Lexicon → List Object → PlainTree → Type 0
IsTreeMeant lexicon objects tree = AreMeant (tree_readings lexicon objects tree) [] tree.body no_growth
