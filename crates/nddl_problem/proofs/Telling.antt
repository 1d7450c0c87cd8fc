-- What is answered, from what is known.
use Rattle.std.proofs.Common.{◌≡◌, List, ◌∙◌, ap}
use Rattle.std.specs.Prelude.{Some}
use Rattle.std.specs.Option.{option_and_then}
use Rattle.nddl_ast.specs.declared.declaration.FileDecls.{FileDecls}
use Rattle.nddl_ast.specs.declared.fault.TextFault.{TextFault}
use Rattle.nddl_ast.specs.declared.fault.TextFault.TheVariants as texts
use Rattle.nddl_symbols.specs.Joined.{joined_decls}
use Rattle.nddl_symbols.specs.declared.fault.Fault.{Fault}
use Rattle.nddl_symbols.specs.Names.{scope_names}
use Rattle.nddl_hierarchy.specs.Facts.{Facts}
use Rattle.nddl_declarations.specs.Known.{AreFacts}
use Rattle.nddl_declarations.specs.Faults.{told_fault}
use Rattle.nddl_types.specs.declared.table.TypeTable.{TypeTable}
use Rattle.nddl_terms.specs.PlainTree.{PlainTree}
use Rattle.nddl_problem.specs.Compiled.{problem_fault}
use Rattle.nddl_problem.specs.Known.{known_by}
use Rattle.nddl_problem.specs.Told.{TellsProblemFault}

-- there is a fault
pub tells_fault : (files : List FileDecls) (facts : Facts) (table : TypeTable) (trees : List PlainTree) (fault : Fault)
    (answer : TextFault) → AreFacts (scope_names (joined_decls files)) (joined_decls files) facts
    → Some fault ≡ problem_fault (known_by files facts table trees) → Some answer ≡ told_fault files fault
    → TellsProblemFault files table trees answer
tells_fault files facts table trees fault (texts.At kind file at) are first told =
    record { facts = facts; are = are; told = told ∙ ap (option_and_then (told_fault files)) first }
tells_fault files facts table trees fault texts.Memory are first told = tt
