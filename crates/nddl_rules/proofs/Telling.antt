-- What is answered, from what is known.
use Rattle.std.proofs.Common.{◌≡◌, List, ◌∙◌, ap}
use Rattle.std.specs.Prelude.{Some, None}
use Rattle.std.specs.Option.{option_and_then}
use Rattle.nddl_ast.specs.declared.declaration.FileDecls.{FileDecls}
use Rattle.nddl_ast.specs.declared.fault.TextFault.{TextFault}
use Rattle.nddl_ast.specs.declared.fault.TextFault.TheVariants as texts
use Rattle.nddl_symbols.specs.Joined.{joined_decls}
use Rattle.nddl_symbols.specs.declared.fault.Fault.{Fault}
use Rattle.nddl_symbols.specs.Finding.{earliest_fault}
use Rattle.nddl_symbols.specs.Names.{scope_names}
use Rattle.nddl_hierarchy.specs.Facts.{Facts}
use Rattle.nddl_declarations.specs.Known.{AreFacts}
use Rattle.nddl_declarations.specs.Faults.{told_fault}
use Rattle.nddl_types.specs.declared.table.TypeTable.{TypeTable}
use Rattle.nddl_types.proofs.Answering.{none_found}
use Rattle.nddl_terms.specs.PlainTree.{PlainTree}
use Rattle.nddl_rule_check.specs.Rules.{all_rule_faults}
use Rattle.nddl_rules.specs.Told.{AreFileTrees, TellsRuleFault, file_trees}

-- there is none
pub tells_trees : (files : List FileDecls) (table : TypeTable) (facts : Facts) (trees : List PlainTree)
    → AreFacts (scope_names (joined_decls files)) (joined_decls files) facts
    → None ≡ earliest_fault None (all_rule_faults facts 0 facts.program) → trees ≡ file_trees table files
    → AreFileTrees table files trees
tells_trees files table facts trees are none trees_are =
    record { facts = facts; are = are; fine = none_found (all_rule_faults facts 0 facts.program) none; trees_are = trees_are }

-- there is one
pub tells_fault : (files : List FileDecls) (facts : Facts) (fault : Fault) (answer : TextFault)
    → AreFacts (scope_names (joined_decls files)) (joined_decls files) facts
    → Some fault ≡ earliest_fault None (all_rule_faults facts 0 facts.program) → Some answer ≡ told_fault files fault
    → TellsRuleFault files answer
tells_fault files facts fault (texts.At kind file at) are first told =
    record { facts = facts; are = are; told = told ∙ ap (option_and_then (told_fault files)) first }
tells_fault files facts fault texts.Memory are first told = tt
