-- The table of the names and types of files.
use Rattle.std.specs.Prelude.{◌≡◌, ◌<◌, ◌^◌, List, [], Some, Result, Ok, Err, length, ⊤}
use Rattle.model_core.specs.declared.class.Class.{Class}
use Rattle.model_core.specs.declared.class.Enum.{Enum}
use Rattle.model_core.specs.declared.class.Pred.{Pred}
use Rattle.nddl_ast.specs.declared.declaration.FileDecls.{FileDecls}
use Rattle.nddl_ast.specs.declared.fault.TextFault.{TextFault}
use Rattle.nddl_ast.specs.declared.fault.TextFault.TheVariants as texts
use Rattle.nddl_symbols.specs.Joined.{joined_decls, joined_sites}
use Rattle.nddl_symbols.specs.Names.{scope_names}
use Rattle.nddl_hierarchy.specs.Facts.{Facts}
use Rattle.nddl_declarations.specs.Known.{AreFacts}
use Rattle.nddl_declarations.specs.Faults.{TellsFirst, all_faults}
use Rattle.nddl_types.specs.declared.table.Named.{Named}
use Rattle.nddl_types.specs.declared.table.TypeTable.{TypeTable}
use Rattle.nddl_types.specs.Classes.{classes_of, enums_of}
use Rattle.nddl_types.specs.Predicates.{preds_of}
use Rattle.nddl_types.specs.Scoped.{named_from}

-- beside these enums a program of these facts has these classes and predicates, and these names
pub record AreEntries (files : List FileDecls) (facts : Facts) (enums : List Enum) (classes : List Class) (preds : List Pred)
    (scope : List Named) : Type 0 where
  pub classes_are : classes ≡ classes_of facts enums
  pub preds_are : preds ≡ preds_of facts enums
  pub scope_is : scope ≡ named_from files (joined_sites files) facts.names 0 facts.names
  pub few_classes : length classes < 2 ^ 32
  pub few_preds : length preds < 2 ^ 32

-- the table has the enums of a program of these facts, and what it has beside them
pub record HasEntries (files : List FileDecls) (facts : Facts) (table : TypeTable) : Type 0 where
  pub enums_are : table.enums ≡ enums_of facts.program
  pub others : AreEntries files facts table.enums table.classes table.preds table.scope

-- the table is that of the names and types of the files, with which nothing is wrong
pub record IsTable (files : List FileDecls) (table : TypeTable) : Type 0 where
  pub facts : Facts
  pub are : AreFacts (scope_names (joined_decls files)) (joined_decls files) facts
  pub fine : all_faults facts ≡ []
  pub entries : HasEntries files facts table

-- what is answered of files: their table, or what is wrong first; where there is no memory, nothing is said
abbrev pub TellsTypes : List FileDecls → Result TypeTable TextFault → Type 0
TellsTypes files (Ok table) = IsTable files table
TellsTypes files (Err (texts.At kind file at)) = TellsFirst files (Some (texts.At kind file at))
TellsTypes files (Err texts.Memory) = ⊤
