-- Which rules of a model are those of a predicate, and how many there are.
use Rattle.std.specs.Prelude.{◌≡◌, ◌<◌, ◌^◌, ◌==◌, ℕ, List, [], Some, All, filter, slice_get}
use Rattle.std.specs.List.{AllZip}
use Rattle.model_core.specs.declared.class.Object.{Object}
use Rattle.model_core.specs.declared.rule.Rule.{Rule}
use Rattle.model_core.specs.declared.rule.Turn.{Turn}
use Rattle.model_core.specs.Blocks.{Direct}
use Rattle.model_core.specs.Entries.{Entries}
use Rattle.model_core.specs.Lawful.{AreFew}
use Rattle.model_core.specs.Standing.{StandsAt}
use Rattle.nddl_ast.specs.declared.declaration.FileDecls.{FileDecls}
use Rattle.nddl_types.specs.declared.table.TypeTable.{TypeTable}
use Rattle.nddl_terms.specs.PlainTree.{PlainTree}
use Rattle.nddl_terms.specs.declared.lexicon.Lexicon.{Lexicon}
use Rattle.nddl_rules.specs.Told.{AreFileTrees}
use Rattle.nddl_unroll.specs.Rules.{tree_rule, tree_rules}
use Rattle.nddl_unroll.specs.Weighing.{tree_limits}
use Rattle.nddl_instance.specs.Numbers.{rules_of_pred}

-- the texts for the predicate of this number
abbrev pub pred_trees : ℕ → List PlainTree → List PlainTree
pred_trees pred trees = filter (λ tree. tree.pred == pred) trees

-- its rules
abbrev pub pred_rules : Lexicon → List Object → List PlainTree → ℕ → List Rule
pred_rules lexicon objects trees pred = tree_rules lexicon objects (pred_trees pred trees)

-- a model has the rules of a predicate at the numbers that the predicate lists
abbrev pub RulesAreListed : Type 0
RulesAreListed =
    (lexicon : Lexicon) (objects : List Object) (trees : List PlainTree) (pred : ℕ)
    → AllZip (λ place rule. slice_get (tree_rules lexicon objects trees) place ≡ Some rule) (rules_of_pred pred 0 trees)
    (pred_rules lexicon objects trees pred)

-- where no limit is told of the rules of files, those of each predicate are few
abbrev pub RulesAreFew : Type 0
RulesAreFew =
    (table : TypeTable) (files : List FileDecls) (trees : List PlainTree) (lexicon : Lexicon) (objects : List Object)
    → AreFileTrees table files trees → tree_limits lexicon trees ≡ [] → (pred : ℕ)
    → AreFew (pred_rules lexicon objects trees pred)

-- each entry of a block has a place of 16 bits in it
abbrev pub HasSmallBlocks : Entries → Type 0
HasSmallBlocks top = (path : List Turn) (place : ℕ) (what : Direct) → StandsAt top path place what → place < 2 ^ 16

-- where no limit is told of rules, their blocks are small
abbrev pub BlocksAreSmall : Type 0
BlocksAreSmall =
    (lexicon : Lexicon) (objects : List Object) (trees : List PlainTree) → tree_limits lexicon trees ≡ []
    → All (λ tree. HasSmallBlocks (tree_rule lexicon objects tree).top) trees
