-- What the statements of a rule stand for.
use Rattle.std.specs.Prelude.{ℕ, ℤ, List, [], ◌∷◌, ◌++◌, map}
use Rattle.model_core.specs.declared.item.Term.TheVariants.{Lit}
use Rattle.model_core.specs.declared.rule.Entry.{Entry}
use Rattle.model_core.specs.declared.rule.Entry.TheVariants as entries
use Rattle.model_core.specs.declared.variable.ValueKind.TheVariants.{Object}
use Rattle.model_core.specs.Block.{plain_entries}
use Rattle.model_core.specs.Entries.{Entries}
use Rattle.nddl_ast.specs.declared.name.Name.{Name}
use Rattle.nddl_ast.specs.Tree.{Statements, Nothing, Declares, Calls, Asks, Tests, Chooses, Repeats}
use Rattle.nddl_terms.specs.declared.growth.Growth.{Growth}
use Rattle.nddl_terms.specs.declared.lexicon.Lexicon.{Lexicon}
use Rattle.nddl_terms.specs.declared.stands.Made.{Made}
use Rattle.nddl_terms.specs.declared.stands.Stand.{Stand}
use Rattle.nddl_terms.specs.declared.stands.Stand.TheVariants.{Class, Value}
use Rattle.nddl_terms.specs.Growth.{with_last_entry}
use Rattle.nddl_terms.specs.Lexicon.{class_objects}
use Rattle.nddl_terms.specs.Readings.{Readings}
use Rattle.nddl_terms.specs.Stands.{first_stand}
use Rattle.nddl_lower.specs.Arguments.{condition_guard}
use Rattle.nddl_lower.specs.Calls.{with_ask, with_call}
use Rattle.nddl_lower.specs.Locals.{with_text_local}

-- ---- blocks in blocks

-- what a rule has as a new block begins, where nothing stands yet
abbrev pub in_block : Growth → Growth
in_block growth = record growth { entries = [] }

-- the block that has been filled
abbrev pub filled_block : Growth → Entries
filled_block growth = plain_entries growth.entries

-- back in the block round it, where these entries stand
abbrev pub back_in : List Entry → Growth → Growth
back_in outer growth = record growth { entries = outer }

-- ---- turns

-- what the variable of a `foreach` over the class of this number stands for, in one turn after another, if these are its objects
abbrev pub turn_stands : ℕ → List ℤ → List Stand
turn_stands class objects = map (λ object. Value (Lit object) Object class) objects

-- what the variable of a `foreach` stands for in one turn after another, if the name that it goes over stands for a class
abbrev pub stand_turns : Lexicon → Stand → List Stand
stand_turns lexicon (Class class) = turn_stands class (class_objects lexicon class)
stand_turns lexicon stand = []

-- the variable of this name stands for this
abbrev pub turn_of : Name → Stand → Made
turn_of name object = record { at = name.at; stand = object }

-- one turn for each object, one after another
abbrev pub all_turns : (Stand → Growth → Growth) → List Stand → Growth → Growth
all_turns turn [] growth = growth
all_turns turn (object ∷ more) growth = all_turns turn more (turn object growth)

-- ---- statements

-- What a rule has behind these statements, in these turns and with what it has before them: the numbers of locals, slots and
-- items go on in order of the text, in which each `foreach` stands for its block once for each object.
abbrev pub unrolled : Readings → List Made → Statements → Growth → Growth
unrolled reading turns Nothing growth = growth
unrolled reading turns (Declares variable more) growth =
    unrolled reading turns more (with_text_local reading turns variable growth)
unrolled reading turns (Calls call more) growth = unrolled reading turns more (with_call reading turns call growth)
unrolled reading turns (Asks ask more) growth = unrolled reading turns more (with_ask reading turns ask growth)
unrolled reading turns (Tests at condition then_at then more) growth =
    let tested = condition_guard reading turns condition growth in
    let filled = unrolled reading turns then (in_block tested.growth) in
    unrolled reading turns more
    (with_last_entry (entries.Branch tested.guard (filled_block filled) (plain_entries [])) (back_in tested.growth.entries filled))
unrolled reading turns (Chooses at condition then_at then else_at else more) growth =
    let tested = condition_guard reading turns condition growth in
    let filled = unrolled reading turns then (in_block tested.growth) in
    let other = unrolled reading turns else (in_block filled) in
    unrolled reading turns more
    (with_last_entry (entries.Branch tested.guard (filled_block filled) (filled_block other)) (back_in tested.growth.entries other))
unrolled reading turns (Repeats at name class body_at body more) growth =
    unrolled reading turns more
    (all_turns (λ object inner. unrolled reading (turns ++ turn_of name object ∷ []) body inner)
    (stand_turns reading.lexicon (first_stand reading turns growth class.at)) growth)
