-- How deep blocks lie in rules that are unrolled.
use Rattle.std.specs.Prelude.{◌<◌, List, length, All}
use Rattle.model_core.specs.declared.class.Object.{Object}
use Rattle.model_core.specs.declared.rule.Turn.{Turn}
use Rattle.model_core.specs.Entries.{Entries}
use Rattle.model_core.specs.Standing.{LeadsToBlock}
use Rattle.nddl_ast.specs.declared.declaration.FileDecls.{FileDecls}
use Rattle.nddl_laws.specs.Given.{AreGiven}
use Rattle.nddl_types.specs.declared.table.TypeTable.{TypeTable}
use Rattle.nddl_terms.specs.PlainTree.{PlainTree}
use Rattle.nddl_terms.specs.declared.lexicon.Lexicon.{Lexicon}
use Rattle.nddl_rules.specs.Told.{AreFileTrees}
use Rattle.nddl_unroll.specs.Rules.{tree_rule}

-- no way to a block in it has 16 turns or more
abbrev pub IsShallow : Entries → Type 0
IsShallow top = (path : List Turn) (block : Entries) → LeadsToBlock top path block → length path < 16

-- the rules of files that some shelf gives are shallow, whatever the objects
abbrev pub RulesAreShallow : Type 0
RulesAreShallow =
    (table : TypeTable) (files : List FileDecls) (trees : List PlainTree) (lexicon : Lexicon) (objects : List Object)
    → AreGiven files → AreFileTrees table files trees
    → All (λ tree. IsShallow (tree_rule lexicon objects tree).top) trees
