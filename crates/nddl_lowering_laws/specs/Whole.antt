-- Lawful rules, and what is left to show of them.
use Rattle.std.specs.Prelude.{◌≡◌, ◌<◌, ℕ, List, [], Some, All, length, slice_get}
use Rattle.std.specs.List.{AllZip}
use Rattle.model_core.specs.declared.class.Object.{Object}
use Rattle.model_core.specs.declared.item.Item.{Item}
use Rattle.model_core.specs.declared.model.Model.{Model}
use Rattle.model_core.specs.declared.rule.Guard.{Guard}
use Rattle.model_core.specs.declared.rule.Rule.{Rule}
use Rattle.model_core.specs.declared.rule.Turn.{Turn}
use Rattle.model_core.specs.Blocks.{OfBranch, OfItem, OfLocal, OfSlot}
use Rattle.model_core.specs.Entries.{Entries}
use Rattle.model_core.specs.Kinds.{OfRule}
use Rattle.model_core.specs.Lawful.{AreFew, IsLawfulGuard, IsLawfulItem, IsLawfulRule, IsLawfulVariable}
use Rattle.model_core.specs.Standing.{IsItemSeen, StandsAt}
use Rattle.nddl_ast.specs.declared.declaration.FileDecls.{FileDecls}
use Rattle.nddl_laws.specs.Given.{AreGiven}
use Rattle.nddl_types.specs.declared.table.TypeTable.{TypeTable}
use Rattle.nddl_terms.specs.PlainTree.{PlainTree}
use Rattle.nddl_terms.specs.declared.lexicon.Lexicon.{Lexicon}
use Rattle.nddl_rules.specs.Told.{AreFileTrees}
use Rattle.nddl_unroll.specs.Rules.{tree_rule, tree_rules}
use Rattle.nddl_unroll.specs.Weighing.{tree_limits}
use Rattle.nddl_instance.specs.Numbers.{rules_of_pred}
use Rattle.nddl_lowering_laws.specs.Slots.{HasPredsOf}

-- ---- numbers

-- what stands in the rule by a number is there
pub record HasNumbers (rule : Rule) : Type 0 where
  pub slots : (path : List Turn) (place number : ℕ) → StandsAt rule.top path place (OfSlot number) → number < length rule.slots
  pub locals : (path : List Turn) (place number : ℕ) → StandsAt rule.top path place (OfLocal number) → number < length rule.locals

-- so it is in rules that are unrolled, whatever the text
abbrev pub NumbersAreThere : Type 0
NumbersAreThere = (lexicon : Lexicon) (objects : List Object) (tree : PlainTree) → HasNumbers (tree_rule lexicon objects tree)

-- ---- whole rules

-- what depends on kinds: the locals of a rule of this predicate are lawful, and so are the items and the guards that stand in it
pub record HasLawfulKinds (model : Model) (pred : ℕ) (rule : Rule) : Type 0 where
  pub locals : All (IsLawfulVariable model) rule.locals
  pub items : (path : List Turn) (place : ℕ) (item : Item) → StandsAt rule.top path place (OfItem item)
      → IsLawfulItem model (OfRule pred rule) item × IsItemSeen rule.top path item
  pub guards : (path : List Turn) (place : ℕ) (guard : Guard) (then otherwise : Entries)
      → StandsAt rule.top path place (OfBranch guard then otherwise) → IsLawfulGuard model pred rule path guard

-- these are the trees of files that some shelf gives, no limit is told of their rules, the model has these rules and the
-- predicates of the files, and what depends on kinds is lawful
pub record HasRulesOf (model : Model) (table : TypeTable) (files : List FileDecls) (trees : List PlainTree) (lexicon : Lexicon)
    (objects : List Object) : Type 0 where
  pub given : AreGiven files
  pub are_trees : AreFileTrees table files trees
  pub no_limit : tree_limits lexicon trees ≡ []
  pub rules : model.rules ≡ tree_rules lexicon objects trees
  pub preds : HasPredsOf model lexicon
  pub kinds : All (λ tree. HasLawfulKinds model tree.pred (tree_rule lexicon objects tree)) trees

-- the predicate of this number lists lawful rules, which are few
pub record ListsLawfulRules (model : Model) (pred : ℕ) (listed : List ℕ) : Type 0 where
  pub rules : List Rule
  pub are_rules : AllZip (λ place rule. slice_get model.rules place ≡ Some rule) listed rules
  pub few : AreFew rules
  pub lawful : All (IsLawfulRule model pred) rules

-- then each predicate does that lists the rules of its texts
abbrev pub RulesAreLawful : Type 0
RulesAreLawful =
    (model : Model) (table : TypeTable) (files : List FileDecls) (trees : List PlainTree) (lexicon : Lexicon) (objects : List Object)
    → HasRulesOf model table files trees lexicon objects → (pred : ℕ) → ListsLawfulRules model pred (rules_of_pred pred 0 trees)
