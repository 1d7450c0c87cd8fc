-- What is wrong with the statements of a block.
use Rattle.std.specs.Prelude.{ℕ, Bool, true, false, List, [], ◌++◌, Option, Some, is_some}
use Rattle.nddl_ast.specs.declared.name.Name.{Name}
use Rattle.nddl_ast.specs.declared.statement.Ask.{Ask}
use Rattle.nddl_ast.specs.declared.statement.Variable.{Variable}
use Rattle.nddl_ast.specs.Tree.{Statements, Nothing, Declares, Calls, Asks, Tests, Chooses, Repeats}
use Rattle.nddl_symbols.specs.declared.fault.Fault.{Fault}
use Rattle.nddl_symbols.specs.declared.scope.Meaning.{Meaning}
use Rattle.nddl_symbols.specs.Finding.{faults_here}
use Rattle.eu_index.specs.Index.{Noted, with_noted}
use Rattle.nddl_symbols.specs.Repeats.{repeated_fault}
use Rattle.nddl_symbols.specs.Scope.{meaning_of}
use Rattle.nddl_typeexpr.specs.declared.kind.TypeKind.TheVariants as kinds
use Rattle.nddl_hierarchy.specs.Facts.{Facts}
use Rattle.nddl_declarations.specs.Classes.{class_meaning_fault}
use Rattle.nddl_resolve.specs.declared.denoted.Denoted.{Denoted}
use Rattle.nddl_resolve.specs.declared.denoted.Denoted.TheVariants as denoted
use Rattle.nddl_resolve.specs.Fields.{type_value}
use Rattle.nddl_resolve.specs.Paths.{Surroundings}
use Rattle.nddl_resolve.specs.Following.{or_faulty}
use Rattle.nddl_rule_check.specs.Arguments.{condition_faults, init_faults}
use Rattle.nddl_rule_check.specs.Calls.{rule_call_faults}
use Rattle.nddl_rule_check.specs.Slots.{ask_faults, labelled_slot}
use Rattle.nddl_rule_check.specs.Seeing.{seeing_label, seeing_local, seeing_turn}
use Rattle.nddl_rule_check.specs.Types.{local_type_faults}

-- ---- single statements

-- what is wrong with a local, in a block that has these names so far: its type, its name, and what it begins as
abbrev pub local_faults : Facts → Surroundings → ℕ → Noted → Variable → List Fault
local_faults facts around decl own variable =
    local_type_faults facts around decl variable.declared
    ++ (repeated_fault decl own variable.name ++ init_faults facts around decl variable.declared variable.init)

-- what the name of a local means behind it
abbrev pub local_value : Facts → Variable → Denoted
local_value facts variable = type_value facts.names facts.known false variable.declared

-- what is wrong with a slot that gets a label
abbrev pub slot_faults : Facts → Surroundings → ℕ → Noted → Ask → List Fault
slot_faults facts around decl own ask = ask_faults facts around decl ask ++ repeated_fault decl own ask.label

-- what the label means behind it
abbrev pub slot_value : Facts → Surroundings → Ask → Denoted
slot_value facts around ask = or_faulty (labelled_slot facts around ask.path)

-- what is wrong with the class of a `foreach`
abbrev pub turn_faults : Facts → ℕ → Name → List Fault
turn_faults facts decl class =
    faults_here decl class.at (class_meaning_fault facts.names (meaning_of facts.names class.text))

-- an object of this class, if there is nothing wrong with it
abbrev pub object_unless : Option Meaning → Bool → Denoted
object_unless (Some class) false = denoted.Value (kinds.Object class) true
object_unless meaning is_wrong = denoted.Faulty

-- what the variable of a `foreach` over this class means: an object that is known in each turn
abbrev pub turn_value : Facts → Name → Denoted
turn_value facts class =
    let meaning = meaning_of facts.names class.text in
    object_unless meaning (is_some (class_meaning_fault facts.names meaning))

-- ---- blocks

-- What is wrong with the statements of a block, where names mean this and those are declared in the block so far. Locals and
-- labels are seen behind their statement, in the block and in blocks inside it; each block declares names anew.
abbrev pub block_faults : Facts → ℕ → Surroundings → Noted → Statements → List Fault
block_faults facts decl around own Nothing = []
block_faults facts decl around own (Declares variable more) =
    local_faults facts around decl own variable
    ++ block_faults facts decl (seeing_local around variable.name (local_value facts variable))
    (with_noted own variable.name.text 0) more
block_faults facts decl around own (Calls call more) =
    rule_call_faults facts around decl call ++ block_faults facts decl around own more
block_faults facts decl around own (Asks ask more) =
    slot_faults facts around decl own ask
    ++ block_faults facts decl (seeing_label around ask.label (slot_value facts around ask)) (with_noted own ask.label.text 0) more
block_faults facts decl around own (Tests at condition then_at then more) =
    condition_faults facts around decl condition
    ++ (block_faults facts decl around [] then ++ block_faults facts decl around own more)
block_faults facts decl around own (Chooses at condition then_at then else_at else more) =
    condition_faults facts around decl condition
    ++ (block_faults facts decl around [] then
    ++ (block_faults facts decl around [] else ++ block_faults facts decl around own more))
block_faults facts decl around own (Repeats at name class body_at body more) =
    turn_faults facts decl class
    ++ (block_faults facts decl (seeing_turn around name (turn_value facts class)) [] body
    ++ block_faults facts decl around own more)
