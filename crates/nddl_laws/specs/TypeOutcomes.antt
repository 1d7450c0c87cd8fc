-- That there is one answer at most.
use Rattle.std.specs.Prelude.{◌≡◌, List, Result, Err}
use Rattle.nddl_ast.specs.declared.declaration.Decl.{Decl}
use Rattle.nddl_ast.specs.declared.declaration.FileDecls.{FileDecls}
use Rattle.nddl_ast.specs.declared.fault.TextFault.{TextFault}
use Rattle.nddl_ast.specs.declared.fault.TextFault.TheVariants.{Memory}
use Rattle.nddl_symbols.specs.declared.declared.Declared.{Declared}
use Rattle.nddl_hierarchy.specs.Facts.{Facts}
use Rattle.nddl_declarations.specs.Known.{AreFacts}
use Rattle.nddl_types.specs.declared.table.TypeTable.{TypeTable}
use Rattle.nddl_types.specs.Table.{TellsTypes}

-- a program has one list of facts
abbrev pub KnowsOnce : Type 0
KnowsOnce = (names : List Declared) (program : List Decl) (one other : Facts)
    → AreFacts names program one → AreFacts names program other → one ≡ other

-- two answers of the same files, neither for want of memory, are the same
abbrev pub HasOneAnswer : Type 0
HasOneAnswer = (files : List FileDecls) (one other : Result TypeTable TextFault) → TellsTypes files one → TellsTypes files other
    → (one ≡ Err Memory → ⊥) → (other ≡ Err Memory → ⊥) → one ≡ other
