-- That there is one answer at most of the rules of files.
use Rattle.std.specs.Prelude.{◌≡◌, List, Result, Err, MatchResult}
use Rattle.nddl_ast.specs.declared.declaration.FileDecls.{FileDecls}
use Rattle.nddl_ast.specs.declared.fault.TextFault.{TextFault}
use Rattle.nddl_ast.specs.declared.fault.TextFault.TheVariants.{Memory}
use Rattle.nddl_types.specs.declared.table.TypeTable.{TypeTable}
use Rattle.nddl_terms.specs.PlainTree.{PlainTree}
use Rattle.nddl_rules.specs.Told.{AreFileTrees, TellsRuleFault}

-- what is answered of the rules of files with this table
abbrev pub TellsRules : TypeTable → List FileDecls → Result (List PlainTree) TextFault → Type 0
TellsRules table files answer = MatchResult answer (AreFileTrees table files) (TellsRuleFault files)

-- two answers of the same files with the same table, neither for want of memory, are the same
abbrev pub HaveOneAnswer : Type 0
HaveOneAnswer =
    (table : TypeTable) (files : List FileDecls) (one other : Result (List PlainTree) TextFault) → TellsRules table files one
    → TellsRules table files other → (one ≡ Err Memory → ⊥) → (other ≡ Err Memory → ⊥) → one ≡ other
