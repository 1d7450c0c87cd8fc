-- The rule trees of files, or what is wrong first with their rules.
use Rattle.std.specs.Prelude.{◌≡◌, ℕ, ◌+◌, List, [], ◌∷◌, Some, None, ⊤}
use Rattle.std.specs.Option.{option_and_then}
use Rattle.nddl_ast.specs.declared.declaration.FileDecls.{FileDecls}
use Rattle.nddl_ast.specs.declared.fault.TextFault.{TextFault}
use Rattle.nddl_ast.specs.declared.fault.TextFault.TheVariants as texts
use Rattle.nddl_symbols.specs.Joined.{joined_decls, joined_sites}
use Rattle.nddl_symbols.specs.Finding.{earliest_fault}
use Rattle.eu_index.specs.Index.{Noted, with_noted}
use Rattle.nddl_symbols.specs.Names.{scope_names}
use Rattle.nddl_hierarchy.specs.Facts.{Facts}
use Rattle.nddl_declarations.specs.Known.{AreFacts}
use Rattle.nddl_declarations.specs.Faults.{told_fault}
use Rattle.nddl_types.specs.declared.table.Named.{Named}
use Rattle.nddl_types.specs.declared.table.TypeTable.{TypeTable}
use Rattle.nddl_terms.specs.PlainTree.{PlainTree}
use Rattle.nddl_rule_check.specs.Rules.{all_rule_faults}
use Rattle.nddl_rules.specs.Collected.{RuleTexts, all_trees}

-- the places of the names of a scope, where others stand before these, of which the first has this number
abbrev pub scope_places : Noted → ℕ → List Named → Noted
scope_places noted number [] = noted
scope_places noted number (named ∷ more) = scope_places (with_noted noted named.name number) (number + 1) more

-- where the rules of files are read, over the scope of their table
abbrev pub file_texts : TypeTable → List FileDecls → RuleTexts
file_texts table files = record {
  files = files;
  sites = joined_sites files;
  program = joined_decls files;
  scope = scope_places [] 0 table.scope;
}

-- the trees of the rules of files, by their table
abbrev pub file_trees : TypeTable → List FileDecls → List PlainTree
file_trees table files = all_trees (file_texts table files) table.classes table.preds

-- these are the trees of the files, with whose rules nothing is wrong
pub record AreFileTrees (table : TypeTable) (files : List FileDecls) (trees : List PlainTree) : Type 0 where
  pub facts : Facts
  pub are : AreFacts (scope_names (joined_decls files)) (joined_decls files) facts
  pub fine : all_rule_faults facts 0 facts.program ≡ []
  pub trees_are : trees ≡ file_trees table files

-- this is what is wrong first with the rules of the files
pub record IsFirstRuleFault (files : List FileDecls) (answer : TextFault) : Type 0 where
  pub facts : Facts
  pub are : AreFacts (scope_names (joined_decls files)) (joined_decls files) facts
  pub told : Some answer ≡ option_and_then (told_fault files) (earliest_fault None (all_rule_faults facts 0 facts.program))

-- what is answered where there are no trees; where there is no memory, nothing is said
abbrev pub TellsRuleFault : List FileDecls → TextFault → Type 0
TellsRuleFault files (texts.At kind file at) = IsFirstRuleFault files (texts.At kind file at)
TellsRuleFault files texts.Memory = ⊤
