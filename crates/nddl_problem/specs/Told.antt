-- What is answered of files that are compiled.
use Rattle.std.specs.Prelude.{◌≡◌, List, Some, None, Result, ⊤, ◌⊎◌, MatchResult}
use Rattle.std.specs.Option.{option_and_then}
use Rattle.model_core.specs.declared.model.Model.{Model}
use Rattle.model_core.specs.Lawful.{IsLawful}
use Rattle.nddl_ast.specs.declared.declaration.FileDecls.{FileDecls}
use Rattle.nddl_ast.specs.declared.fault.TextFault.{TextFault}
use Rattle.nddl_ast.specs.declared.fault.TextFault.TheVariants as texts
use Rattle.nddl_symbols.specs.Joined.{joined_decls}
use Rattle.nddl_symbols.specs.Names.{scope_names}
use Rattle.nddl_hierarchy.specs.Facts.{Facts}
use Rattle.nddl_declarations.specs.Known.{AreFacts}
use Rattle.nddl_declarations.specs.Faults.{TellsFirst, told_fault}
use Rattle.nddl_types.specs.declared.table.TypeTable.{TypeTable}
use Rattle.nddl_types.specs.Table.{IsTable}
use Rattle.nddl_terms.specs.PlainTree.{PlainTree}
use Rattle.nddl_rules.specs.Told.{AreFileTrees, IsFirstRuleFault}
use Rattle.nddl_problem.specs.Compiled.{compiled_model, problem_fault}
use Rattle.nddl_problem.specs.Known.{known_by}

-- ---- files of which the table and the trees are known

-- nothing is wrong with the problem of the files, and this is their model, which is lawful
pub record HasModel (files : List FileDecls) (table : TypeTable) (trees : List PlainTree) (model : Model) : Type 0 where
  pub facts : Facts
  pub are : AreFacts (scope_names (joined_decls files)) (joined_decls files) facts
  pub fine : problem_fault (known_by files facts table trees) ≡ None
  pub made : model ≡ compiled_model (known_by files facts table trees)
  pub lawful : IsLawful model

-- this is what is wrong first with the problem of the files
pub record HasProblemFault (files : List FileDecls) (table : TypeTable) (trees : List PlainTree) (answer : TextFault) : Type 0 where
  pub facts : Facts
  pub are : AreFacts (scope_names (joined_decls files)) (joined_decls files) facts
  pub told : Some answer ≡ option_and_then (told_fault files) (problem_fault (known_by files facts table trees))

-- where there is no memory, nothing is said
abbrev pub TellsProblemFault : List FileDecls → TypeTable → List PlainTree → TextFault → Type 0
TellsProblemFault files table trees (texts.At kind file at) = HasProblemFault files table trees (texts.At kind file at)
TellsProblemFault files table trees texts.Memory = ⊤

abbrev pub TellsProblem : List FileDecls → TypeTable → List PlainTree → Result Model TextFault → Type 0
TellsProblem files table trees answer = MatchResult answer (HasModel files table trees) (TellsProblemFault files table trees)

-- ---- files of which nothing is known

-- nothing is wrong with the files, and this is their model
pub record IsCompiled (files : List FileDecls) (model : Model) : Type 0 where
  pub table : TypeTable
  pub is_table : IsTable files table
  pub trees : List PlainTree
  pub are_trees : AreFileTrees table files trees
  pub has : HasModel files table trees model

-- nothing is wrong with the names and types of the files, and this is what is wrong first with their rules
pub record IsFirstInRules (files : List FileDecls) (answer : TextFault) : Type 0 where
  pub table : TypeTable
  pub is_table : IsTable files table
  pub first : IsFirstRuleFault files answer

-- nothing is wrong with the names, types and rules of the files, and this is what is wrong first with their problem
pub record IsFirstInProblem (files : List FileDecls) (answer : TextFault) : Type 0 where
  pub table : TypeTable
  pub is_table : IsTable files table
  pub trees : List PlainTree
  pub are_trees : AreFileTrees table files trees
  pub has : HasProblemFault files table trees answer

-- the first fault of files: one of names and types, else one of rules, else one of the problem
abbrev pub IsFirstFault : List FileDecls → TextFault → Type 0
IsFirstFault files fault = TellsFirst files (Some fault) ⊎ (IsFirstInRules files fault ⊎ IsFirstInProblem files fault)

-- what is answered where there is no model; where there is no memory, nothing is said
abbrev pub TellsFault : List FileDecls → TextFault → Type 0
TellsFault files (texts.At kind file at) = IsFirstFault files (texts.At kind file at)
TellsFault files texts.Memory = ⊤

-- what is answered of files
abbrev pub TellsModel : List FileDecls → Result Model TextFault → Type 0
TellsModel files answer = MatchResult answer (IsCompiled files) (TellsFault files)
