-- The rules of a compiled model are lawful where fields fit in them, and so is the model where what is left is.
use Rattle.std.proofs.Common.{◌≡◌, ℕ, List, [], ◌++◌, refl, sym, ◌∙◌, ap, subst}
use Rattle.std.specs.Prelude.{Option, Some, None, All, slice_get}
use Rattle.std.specs.List.{AllZip}
use Rattle.std.specs.Option.{option_map}
use Rattle.std.proofs.lemmas.Option.{same_Some, none-some}
use Rattle.model_core.specs.declared.class.Pred.{Pred}
use Rattle.model_core.specs.declared.model.Model.{Model}
use Rattle.model_core.specs.declared.rule.Rule.{Rule}
use Rattle.model_core.specs.Lawful.{IsLawfulRoot, IsLawfulVariable}
use Rattle.nddl_unroll.specs.Weighing.{tree_limits}
use Rattle.nddl_problem_check.specs.Limits.{problem_limit_faults}
use Rattle.nddl_problem_check.specs.Texts.{problem_text_faults}
use Rattle.nddl_instance.specs.Numbers.{rules_of_pred}
use Rattle.nddl_problem.specs.Compiled.{compiled_model}
use Rattle.nddl_problem.specs.Known.{Known, lexicon_known, objects_known, progress_known, scope_known, world_known}
use Rattle.nddl_laws.proofs.Nothing.{none_second}
use Rattle.nddl_lowering_laws.specs.Fitting.{HasThings}
use Rattle.nddl_lowering_laws.specs.Slots.{HasPredsOf}
use Rattle.nddl_lowering_laws.specs.Whole.{ListsLawfulRules}
use Rattle.nddl_lowering_laws.proofs.Faultless.{faultless_lawful}
use Rattle.nddl_model_laws.specs.Faultless.{IsFaultless}
use Rattle.nddl_model_laws.specs.Ruled.{PredHasLawfulRules}
use Rattle.nddl_model_laws.proofs.Grounds.{problem_fine}
use Rattle.nddl_model_laws.proofs.Joining.{rest_makes_lawful}
use Rattle.nddl_model_laws.proofs.Listed.{pred_at, ruled}
use Rattle.nddl_whole_laws.specs.Left.{FittingFieldsMakeRulesLawful, LeftMakesLawful}
use Rattle.nddl_whole_laws.specs.Things.{GlobalsAreLawful, ModelsHaveThings, RootsAreLawful}
use Rattle.nddl_whole_laws.proofs.Belonging.{files_faultless, transported}
use Rattle.nddl_whole_laws.proofs.Globals.{globals_lawful}
use Rattle.nddl_whole_laws.proofs.Known.{horizon_right, kinds_right}
use Rattle.nddl_whole_laws.proofs.Standing.{roots_lawful, things_there}
use Rattle.nddl_whole_laws.proofs.Things.{preds_there}

abbrev HasAllThings : Known → Type 0
HasAllThings known = HasThings (compiled_model known) (lexicon_known known) (objects_known known)

abbrev HasAllPreds : Known → Type 0
HasAllPreds known = HasPredsOf (compiled_model known) (lexicon_known known)

abbrev HasLawfulRoots : Known → Type 0
HasLawfulRoots known = All (IsLawfulRoot (compiled_model known)) (compiled_model known).problem.roots

abbrev HasLawfulGlobals : Known → Type 0
HasLawfulGlobals known = All (IsLawfulVariable (compiled_model known)) (compiled_model known).problem.globals

pub models_have_things : ModelsHaveThings
models_have_things known is =
    transported HasAllThings (λ files table trees given is are_trees fine. things_there files table trees given is are_trees fine) known is

pub roots_are_lawful : RootsAreLawful
roots_are_lawful known is =
    transported HasLawfulRoots (λ files table trees given is are_trees fine. roots_lawful files table trees given is are_trees fine) known is

pub globals_are_lawful : GlobalsAreLawful
globals_are_lawful known is =
    transported HasLawfulGlobals (λ files table trees given is are_trees fine. globals_lawful files table trees given is are_trees fine) known is

all_preds : (known : Known) → IsFaultless known → HasAllPreds known
all_preds known is =
    transported HasAllPreds (λ files table trees given is are_trees fine. preds_there files table trees given is are_trees fine) known is

-- a predicate that lists lawful rules has lawful rules
listed_rules : (model : Model) (number : ℕ) (pred : Pred) (listed : List ℕ) → pred.rules ≡ listed → ListsLawfulRules model number listed
    → PredHasLawfulRules model number pred
listed_rules model number pred listed same lists = record {
  rules = lists.rules;
  are_rules = subst (λ (some : List ℕ). AllZip (λ (place : ℕ) (rule : Rule). slice_get model.rules place ≡ Some rule) some lists.rules) (sym same) lists.are_rules;
  few = lists.few;
  lawful = lists.lawful;
}

pub fitting_rules_lawful : FittingFieldsMakeRulesLawful
fitting_rules_lawful known is fields number pred at =
    let model : Model = compiled_model known in
    let lexicon = lexicon_known known in
    let limits = problem_limit_faults known.facts (progress_known known) lexicon (scope_known known) in
    let no_limit : tree_limits lexicon known.trees ≡ [] =
    none_second limits (tree_limits lexicon known.trees)
    (none_second (problem_text_faults known.facts) (limits ++ tree_limits lexicon known.trees) (problem_fine known is)) in
    let lists = faultless_lawful model known.files known.table known.trees (world_known known) (objects_known known) (record {
      faultless = files_faultless known is;
      no_limit = no_limit;
      rules = refl;
      preds = all_preds known is;
      things = models_have_things known is;
      fields = fields;
    }) number in
    by (slice_get known.table.preds number) (sym (pred_at lexicon known.trees number known.table.preds) ∙ at) lists
  where
    by : (o : Option Pred) → option_map (ruled (lexicon_known known) known.trees number) o ≡ Some pred
        → ListsLawfulRules (compiled_model known) number (rules_of_pred number 0 known.trees) → PredHasLawfulRules (compiled_model known) number pred
    by None told lists = absurd (none-some pred told)
    by (Some found) told lists =
        let same : ruled (lexicon_known known) known.trees number found ≡ pred =
        same_Some (ruled (lexicon_known known) known.trees number found) pred told in
        listed_rules (compiled_model known) number pred (rules_of_pred number 0 known.trees) (ap (λ (p : Pred). p.rules) (sym same)) lists

pub left_lawful : LeftMakesLawful
left_lawful known is fields left =
    rest_makes_lawful known is (fitting_rules_lawful known is fields) (record {
      horizon = horizon_right known is;
      few_rules = left.few_rules;
      few_globals = left.few_globals;
      few_items = left.few_items;
      kinds = kinds_right known is;
      roots = roots_are_lawful known is;
      globals = globals_are_lawful known is;
      items = left.items;
      decisions = left.decisions;
      objects_differ = left.objects_differ;
    })
