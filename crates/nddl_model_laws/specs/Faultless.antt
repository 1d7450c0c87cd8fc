-- Programs with which nothing is wrong.
use Rattle.std.specs.Prelude.{◌≡◌, None}
use Rattle.nddl_symbols.specs.Joined.{joined_decls}
use Rattle.nddl_symbols.specs.Names.{scope_names}
use Rattle.nddl_declarations.specs.Known.{AreFacts}
use Rattle.nddl_types.specs.Table.{IsTable}
use Rattle.nddl_rules.specs.Told.{AreFileTrees}
use Rattle.nddl_laws.specs.Given.{AreGiven}
use Rattle.nddl_problem.specs.Compiled.{problem_fault}
use Rattle.nddl_problem.specs.Known.{Known}

-- some shelf gives the files; what is known of them is so, and nothing is wrong with their names, types and rules, nor with
-- their problem
pub record IsFaultless (known : Known) : Type 0 where
  pub given : AreGiven known.files
  pub is_table : IsTable known.files known.table
  pub are_trees : AreFileTrees known.table known.files known.trees
  pub are : AreFacts (scope_names (joined_decls known.files)) (joined_decls known.files) known.facts
  pub fine : problem_fault known ≡ None
