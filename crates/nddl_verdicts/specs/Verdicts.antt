-- Which files have a verdict: a model, or what is wrong with them first.
use Rattle.std.specs.Prelude.{◌≡◌, ℕ, ◌≤◌, ◌^◌, ◌⊎◌, List, [], None, length}
use Rattle.model_core.specs.declared.model.Model.{Model}
use Rattle.model_core.specs.Lawful.{IsLawful}
use Rattle.nddl_ast.specs.declared.declaration.Decl.{Decl}
use Rattle.nddl_ast.specs.declared.declaration.FileDecls.{FileDecls}
use Rattle.nddl_ast.specs.declared.fault.TextFault.TheVariants as texts
use Rattle.nddl_ast.specs.declared.kind.TextKind.{TextKind}
use Rattle.nddl_symbols.specs.declared.declared.Declared.{Declared}
use Rattle.nddl_symbols.specs.Joined.{joined_decls}
use Rattle.nddl_symbols.specs.Names.{scope_names}
use Rattle.nddl_hierarchy.specs.Facts.{Facts}
use Rattle.nddl_declarations.specs.Known.{AreFacts}
use Rattle.nddl_declarations.specs.Faults.{all_faults}
use Rattle.nddl_types.specs.declared.table.TypeTable.{TypeTable}
use Rattle.nddl_types.specs.Classes.{classes_of, enums_of}
use Rattle.nddl_types.specs.Predicates.{preds_of}
use Rattle.nddl_types.specs.Table.{IsTable}
use Rattle.nddl_terms.specs.PlainTree.{PlainTree}
use Rattle.nddl_rules.specs.Told.{AreFileTrees}
use Rattle.nddl_problem.specs.Compiled.{compiled_model, problem_fault}
use Rattle.nddl_problem.specs.Known.{Known, known_by}
use Rattle.nddl_problem.specs.Told.{IsCompiled, IsFirstFault}
use Rattle.law_states.specs.Undeniable.{Undeniable}

-- a program of these names has facts
abbrev pub ProgramsHaveFacts : Type 0
ProgramsHaveFacts =
    (names : List Declared) (program : List Decl) → Undeniable ((facts : Facts) × AreFacts names program facts)

-- ---- verdicts

-- these are the facts of the files
abbrev pub AreFactsOf : List FileDecls → Facts → Type 0
AreFactsOf files facts = AreFacts (scope_names (joined_decls files)) (joined_decls files) facts

-- the files have a model, or something is wrong with them first
abbrev pub HasVerdict : List FileDecls → Type 0
HasVerdict files =
    ((model : Model) × IsCompiled files model)
    ⊎ ((kind : TextKind) × ((file : List ℕ) × ((at : ℕ) × IsFirstFault files (texts.At kind file at))))

-- ---- files without one

-- the facts lead to 2^32 classes or predicates, which have no numbers
abbrev pub AreTooMany : Facts → Type 0
AreTooMany facts =
    (2 ^ 32 ≤ length (classes_of facts (enums_of facts.program))) ⊎ (2 ^ 32 ≤ length (preds_of facts (enums_of facts.program)))

-- nothing is wrong with the names and types of the files, but they have too many classes or predicates for a table
pub record OutgrowsTables (files : List FileDecls) : Type 0 where
  pub facts : Facts
  pub are : AreFactsOf files facts
  pub fine : all_faults facts ≡ []
  pub many : AreTooMany facts

-- nothing is wrong with the names, types and rules of the files, which have this table, these trees and these facts
pub record Ruled (files : List FileDecls) : Type 0 where
  pub table : TypeTable
  pub is_table : IsTable files table
  pub trees : List PlainTree
  pub are_trees : AreFileTrees table files trees
  pub facts : Facts
  pub are : AreFactsOf files facts

-- what is known of them
abbrev pub known_ruled : (files : List FileDecls) → Ruled files → Known
known_ruled files ruled = known_by files ruled.facts ruled.table ruled.trees

-- nothing is wrong with the files, but what they are compiled to isn't lawful
pub record HasUnlawfulModel (files : List FileDecls) : Type 0 where
  pub ruled : Ruled files
  pub fine : problem_fault (known_ruled files ruled) ≡ None
  pub unlawful : IsLawful (compiled_model (known_ruled files ruled)) → ⊥

-- The files have no verdict. That there are none of the second sort isn't proved.
abbrev pub HasNoVerdict : List FileDecls → Type 0
HasNoVerdict files = OutgrowsTables files ⊎ HasUnlawfulModel files

-- files have a verdict, but for those
abbrev pub FilesHaveVerdicts : Type 0
FilesHaveVerdicts = (files : List FileDecls) → Undeniable (HasVerdict files ⊎ HasNoVerdict files)
