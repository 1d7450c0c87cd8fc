-- How often the blocks of `foreach` are gone through where a rule is unrolled.
use Rattle.std.specs.Prelude.{ℕ, ◌+◌, List, [], ◌∷◌, ◌++◌}
use Rattle.model_core.specs.declared.class.Object.{Object}
use Rattle.model_core.specs.declared.rule.Entry.TheVariants as entries
use Rattle.model_core.specs.Block.{plain_entries}
use Rattle.nddl_ast.specs.Tree.{Statements, Nothing, Declares, Calls, Asks, Tests, Chooses, Repeats}
use Rattle.nddl_terms.specs.PlainTree.{PlainTree}
use Rattle.nddl_terms.specs.declared.growth.Growth.{Growth}
use Rattle.nddl_terms.specs.declared.lexicon.Lexicon.{Lexicon}
use Rattle.nddl_terms.specs.declared.stands.Made.{Made}
use Rattle.nddl_terms.specs.declared.stands.Stand.{Stand}
use Rattle.nddl_terms.specs.Growth.{no_growth, with_last_entry}
use Rattle.nddl_terms.specs.Readings.{Readings}
use Rattle.nddl_terms.specs.Stands.{first_stand}
use Rattle.nddl_lower.specs.Arguments.{condition_guard}
use Rattle.nddl_lower.specs.Calls.{with_ask, with_call}
use Rattle.nddl_lower.specs.Locals.{with_text_local}
use Rattle.nddl_unroll.specs.Blocks.{all_turns, back_in, filled_block, in_block, stand_turns, turn_of, unrolled}
use Rattle.nddl_unroll.specs.Rules.{tree_readings}

-- one turn for each object, with the turns inside it
abbrev pub each_turn : (Stand → Growth → ℕ) → (Stand → Growth → Growth) → List Stand → Growth → ℕ
each_turn inside turn [] growth = 0
each_turn inside turn (object ∷ more) growth = inside object growth + 1 + each_turn inside turn more (turn object growth)

-- how many turns are taken by these statements, in these turns and with what the rule has before them
abbrev pub turns_taken : Readings → List Made → Statements → Growth → ℕ
turns_taken reading turns Nothing growth = 0
turns_taken reading turns (Declares variable more) growth =
    turns_taken reading turns more (with_text_local reading turns variable growth)
turns_taken reading turns (Calls call more) growth = turns_taken reading turns more (with_call reading turns call growth)
turns_taken reading turns (Asks ask more) growth = turns_taken reading turns more (with_ask reading turns ask growth)
turns_taken reading turns (Tests at condition then_at then more) growth =
    let tested = condition_guard reading turns condition growth in
    let filled = unrolled reading turns then (in_block tested.growth) in
    turns_taken reading turns then (in_block tested.growth)
    + turns_taken reading turns more
    (with_last_entry (entries.Branch tested.guard (filled_block filled) (plain_entries [])) (back_in tested.growth.entries filled))
turns_taken reading turns (Chooses at condition then_at then else_at else more) growth =
    let tested = condition_guard reading turns condition growth in
    let filled = unrolled reading turns then (in_block tested.growth) in
    let other = unrolled reading turns else (in_block filled) in
    turns_taken reading turns then (in_block tested.growth)
    + (turns_taken reading turns else (in_block filled)
    + turns_taken reading turns more
    (with_last_entry (entries.Branch tested.guard (filled_block filled) (filled_block other)) (back_in tested.growth.entries other)))
turns_taken reading turns (Repeats at name class body_at body more) growth =
    let turn : Stand → Growth → Growth = λ object inner. unrolled reading (turns ++ turn_of name object ∷ []) body inner in
    let objects = stand_turns reading.lexicon (first_stand reading turns growth class.at) in
    each_turn (λ object inner. turns_taken reading (turns ++ turn_of name object ∷ []) body inner) turn objects growth
    + turns_taken reading turns more (all_turns turn objects growth)

-- how many turns the rule of this text takes, from where it has nothing
abbrev pub tree_turns : Lexicon → List Object → PlainTree → ℕ
tree_turns lexicon objects tree = turns_taken (tree_readings lexicon objects tree) [] tree.body no_growth
