-- What the trees of files stand on, with whose types and rules nothing is wrong.
use Rattle.std.specs.Prelude.{◌≡◌, ℕ, List, [], Some, All, slice_get}
use Rattle.std.specs.List.{AllZip, flat_map}
use Rattle.model_core.specs.declared.class.Pred.{Pred}
use Rattle.nddl_ast.specs.declared.declaration.FileDecls.{FileDecls}
use Rattle.nddl_ast.specs.declared.declaration.PredicatePart.{PredicatePart}
use Rattle.nddl_ast.specs.Block.{statements_of}
use Rattle.nddl_ast.specs.Tree.{Statements}
use Rattle.nddl_hierarchy.specs.Facts.{Facts}
use Rattle.nddl_declarations.specs.Faults.{all_faults}
use Rattle.nddl_types.specs.declared.table.TypeTable.{TypeTable}
use Rattle.nddl_types.specs.Table.{IsTable}
use Rattle.nddl_resolve.specs.declared.denoted.TokenSort.{TokenSort}
use Rattle.nddl_rule_check.specs.Blocks.{block_faults}
use Rattle.nddl_rule_check.specs.Rules.{part_rule_faults}
use Rattle.nddl_rule_check.specs.Seeing.{token_alone}
use Rattle.nddl_terms.specs.PlainTree.{PlainTree}
use Rattle.nddl_rules.specs.Collected.{part_statements}
use Rattle.nddl_rules.specs.Told.{AreFileTrees}
use Rattle.nddl_laws.specs.Given.{AreGiven}
use Rattle.nddl_laws.specs.Lookups.{IsReadFor, rule_lookups, rule_names, rule_numbered}
use Rattle.nddl_laws.specs.Scoping.{IsGround, RuleGround}

-- Nothing is wrong with these statements as a rule of this token: they are those of a rule that is a declaration of its own,
-- or the constraints in the body of a predicate.
pub data HasFineText (facts : Facts) (token : TokenSort) (statements : Statements) : Type 0 where
  of_rule : (decl : ℕ) → block_faults facts decl (token_alone token) [] statements ≡ [] → HasFineText facts token statements
  of_body : (decl : ℕ) (some : List PredicatePart) → statements ≡ statements_of (part_statements some)
      → flat_map (part_rule_faults facts decl (token_alone token)) some ≡ [] → HasFineText facts token statements

-- The tree stands on this ground: one of the files, with the parameters of the predicate for which the tree is made. Nothing is
-- wrong with its text there, and each name that is looked up in it is read as the thing that it denotes.
pub record StandsOn (files : List FileDecls) (table : TypeTable) (tree : PlainTree) (ground : RuleGround) : Type 0 where
  pub is_ground : IsGround files ground
  pub fine : all_faults ground.facts ≡ []
  pub pred : Pred
  pub is_pred : slice_get table.preds tree.pred ≡ Some pred
  pub params : ground.params ≡ pred.params
  pub text : HasFineText ground.facts ground.token tree.body
  pub names : tree.names ≡ rule_names ground tree.body
  pub read : AllZip (IsReadFor ground (rule_numbered ground tree.body)) tree.names (rule_lookups ground tree.body)

-- there is such a ground
abbrev pub HasGround : List FileDecls → TypeTable → PlainTree → Type 0
HasGround files table tree = (ground : RuleGround) × StandsOn files table tree ground

-- each tree of files has one, if nothing is wrong with their types and rules
abbrev pub TreesHaveGrounds : Type 0
TreesHaveGrounds =
    (files : List FileDecls) (table : TypeTable) (trees : List PlainTree) → AreGiven files → IsTable files table
    → AreFileTrees table files trees → All (HasGround files table) trees
