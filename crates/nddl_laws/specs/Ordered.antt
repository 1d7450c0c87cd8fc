-- Names in the rules of given files.
use Rattle.std.specs.Prelude.{List, All}
use Rattle.nddl_ast.specs.declared.declaration.FileDecls.{FileDecls}
use Rattle.nddl_laws.specs.Given.{AreGiven}
use Rattle.nddl_types.specs.declared.table.TypeTable.{TypeTable}
use Rattle.nddl_terms.specs.PlainTree.{PlainTree}
use Rattle.nddl_terms.specs.Names.{AreReadInOrder}
use Rattle.nddl_rules.specs.Told.{AreFileTrees}

-- the names of each rule tree of given files are read in order
abbrev pub AreTreesInOrder : Type 0
AreTreesInOrder =
    (table : TypeTable) (files : List FileDecls) (trees : List PlainTree) → AreGiven files → AreFileTrees table files trees
    → All (λ tree. AreReadInOrder tree.names) trees
