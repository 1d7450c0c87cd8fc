-- What is shown of parts of rules, joined.
use Rattle.std.proofs.Common.{◌≡◌, ℕ, ◌<◌, ◌==◌, List, get_or, length, sym, subst, eqb-true}
use Rattle.std.specs.Prelude.{Some, All, slice_get}
use Rattle.std.specs.List.{AllZip}
use Rattle.std.proofs.lemmas.List.Elements.{All-contains, All-filter, All-map, filter_passes}
use Rattle.eu_name.proofs.Members.{get_within}
use Rattle.model_core.specs.declared.class.Object.{Object}
use Rattle.model_core.specs.declared.model.Model.{Model}
use Rattle.model_core.specs.declared.rule.Rule.{Rule}
use Rattle.model_core.specs.declared.rule.Turn.{Turn}
use Rattle.model_core.specs.Blocks.{Direct, OfBranch, OfItem, OfLocal, OfSlot}
use Rattle.model_core.specs.Lawful.{IsLawfulEntry, IsLawfulRule}
use Rattle.model_core.specs.Standing.{StandsAt}
use Rattle.model_rules.specs.declared.numbers.Sort.TheVariants.{Slots, Locals}
use Rattle.model_rules.specs.Numbered.{numbers_of}
use Rattle.model_rules.proofs.Listing.{numbers_tell}
use Rattle.nddl_ast.specs.declared.declaration.FileDecls.{FileDecls}
use Rattle.nddl_types.specs.declared.table.TypeTable.{TypeTable}
use Rattle.nddl_terms.specs.PlainTree.{PlainTree}
use Rattle.nddl_terms.specs.declared.lexicon.Lexicon.{Lexicon}
use Rattle.nddl_unroll.specs.Rules.{tree_rule}
use Rattle.nddl_unroll.proofs.Trees.{trees_unnamed}
use Rattle.nddl_instance.specs.Numbers.{rules_of_pred}
use Rattle.nddl_lowering_laws.specs.Few.{HasSmallBlocks, pred_rules, pred_trees}
use Rattle.nddl_lowering_laws.specs.Nested.{IsShallow}
use Rattle.nddl_lowering_laws.specs.Slots.{HasPredsOf}
use Rattle.nddl_lowering_laws.specs.Whole.{HasLawfulKinds, HasNumbers, HasRulesOf, ListsLawfulRules, NumbersAreThere, RulesAreLawful}
use Rattle.nddl_lowering_laws.proofs.Asking.{slots_lawful}
use Rattle.nddl_lowering_laws.proofs.Bodies.{rules_shallow}
use Rattle.nddl_lowering_laws.proofs.Entering.{blocks_small}
use Rattle.nddl_lowering_laws.proofs.Limits.{rules_few}
use Rattle.nddl_lowering_laws.proofs.Numbering.{locals_once, locals_stand, slots_once, slots_stand}
use Rattle.nddl_lowering_laws.proofs.OfPred.{rules_listed}

-- ---- numbers

pub numbers_there : NumbersAreThere
numbers_there lexicon objects tree =
    let rule = tree_rule lexicon objects tree in
    record {
      slots = λ path place number stands.
          All-contains (λ n. n < length rule.slots) (numbers_of Slots rule.top) number (slots_once lexicon objects tree).within
          ((numbers_tell Slots rule.top).listed number (record { path = path; place = place }) stands);
      locals = λ path place number stands.
          All-contains (λ n. n < length rule.locals) (numbers_of Locals rule.top) number (locals_once lexicon objects tree).within
          ((numbers_tell Locals rule.top).listed number (record { path = path; place = place }) stands);
    }

-- ---- entries

module _ (model : Model) (pred : ℕ) (rule : Rule) (numbers : HasNumbers rule) (kinds : HasLawfulKinds model pred rule) where
  entry_lawful : (path : List Turn) (place : ℕ) (what : Direct) → StandsAt rule.top path place what → IsLawfulEntry model pred rule path what
  entry_lawful path place (OfSlot number) stands = get_within rule.slots number (numbers.slots path place number stands)
  entry_lawful path place (OfLocal number) stands = get_within rule.locals number (numbers.locals path place number stands)
  entry_lawful path place (OfItem item) stands = kinds.items path place item stands
  entry_lawful path place (OfBranch guard then otherwise) stands = kinds.guards path place guard then otherwise stands

-- ---- rules

tree_lawful : (model : Model) (lexicon : Lexicon) (objects : List Object) (tree : PlainTree) → HasPredsOf model lexicon
    → IsShallow (tree_rule lexicon objects tree).top → HasSmallBlocks (tree_rule lexicon objects tree).top
    → HasLawfulKinds model tree.pred (tree_rule lexicon objects tree) → IsLawfulRule model tree.pred (tree_rule lexicon objects tree)
tree_lawful model lexicon objects tree preds shallow small kinds = record {
  entries = λ path place what stands. (
    small path place what stands,
    entry_lawful model tree.pred (tree_rule lexicon objects tree) (numbers_there lexicon objects tree) kinds path place what stands,
  );
  nested = shallow;
  slots = slots_lawful model lexicon objects tree preds;
  slots_stand = slots_stand lexicon objects tree;
  locals = kinds.locals;
  unnamed = trees_unnamed lexicon objects tree;
  locals_stand = locals_stand lexicon objects tree;
}

module _ (model : Model) (table : TypeTable) (files : List FileDecls) (trees : List PlainTree) (lexicon : Lexicon) (objects : List Object)
    (has : HasRulesOf model table files trees lexicon objects) where
  -- the rule of this text is a lawful one of its predicate
  abbrev IsLawfulTree : PlainTree → Type 0
  IsLawfulTree tree = IsLawfulRule model tree.pred (tree_rule lexicon objects tree)

  all_lawful : All IsLawfulTree trees
  all_lawful k d below =
      let tree = get_or trees k d in
      tree_lawful model lexicon objects tree has.preds
      (rules_shallow table files trees lexicon objects has.given has.are_trees k d below)
      (blocks_small lexicon objects trees has.no_limit k d below) (has.kinds k d below)

  abbrev IsLawfulFor : ℕ → PlainTree → Type 0
  IsLawfulFor pred tree = IsLawfulRule model pred (tree_rule lexicon objects tree)

  those_lawful : (pred : ℕ) → All (IsLawfulFor pred) (pred_trees pred trees)
  those_lawful pred k d below =
      let those = pred_trees pred trees in
      let tree = get_or those k d in
      let lawful : IsLawfulTree tree = All-filter (λ (t : PlainTree). t.pred == pred) IsLawfulTree trees all_lawful k d below in
      let same : tree.pred ≡ pred = eqb-true tree.pred pred (filter_passes (λ (t : PlainTree). t.pred == pred) trees k d below) in
      subst (λ (n : ℕ). IsLawfulFor n tree) same lawful

  lists : (pred : ℕ) → ListsLawfulRules model pred (rules_of_pred pred 0 trees)
  lists pred = record {
    rules = pred_rules lexicon objects trees pred;
    are_rules = subst
        (λ (rules : List Rule). AllZip (λ place rule. slice_get rules place ≡ Some rule) (rules_of_pred pred 0 trees)
        (pred_rules lexicon objects trees pred))
        (sym has.rules) (rules_listed lexicon objects trees pred);
    few = rules_few table files trees lexicon objects has.are_trees has.no_limit pred;
    lawful = All-map (IsLawfulRule model pred) (tree_rule lexicon objects) (pred_trees pred trees) (those_lawful pred);
  }

pub rules_lawful : RulesAreLawful
rules_lawful model table files trees lexicon objects has pred = lists model table files trees lexicon objects has pred
