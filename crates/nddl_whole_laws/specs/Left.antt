-- What makes a compiled model lawful beside what is so of each.
use Rattle.std.specs.Prelude.{◌≢◌, ◌<◌, ◌≤◌, ◌^◌, All, AllPairs, length, map}
use Rattle.model_core.specs.declared.model.Model.{Model}
use Rattle.model_core.specs.Kinds.{OfProblem}
use Rattle.model_core.specs.Lawful.{IsLawful, IsLawfulDecision, IsLawfulItem}
use Rattle.nddl_unroll.specs.Rules.{tree_rule}
use Rattle.nddl_problem.specs.Compiled.{compiled_model}
use Rattle.nddl_problem.specs.Known.{Known, lexicon_known, objects_known}
use Rattle.nddl_lowering_laws.specs.Faultless.{HasFittingFields}
use Rattle.nddl_model_laws.specs.Faultless.{IsFaultless}
use Rattle.nddl_model_laws.specs.Ruled.{HaveLawfulRules}

-- what isn't said of the rules of a compiled model: that their locals are lawful, and that what is read from a field is of the
-- field's kind
abbrev pub HasFittingRules : Known → Type 0
HasFittingRules known =
    All
    (λ tree. HasFittingFields (compiled_model known) tree.pred (tree_rule (lexicon_known known) (objects_known known) tree))
    known.trees

-- its rules are lawful, if this is so
abbrev pub FittingFieldsMakeRulesLawful : Type 0
FittingFieldsMakeRulesLawful = (known : Known) → IsFaultless known → HasFittingRules known → HaveLawfulRules (compiled_model known)

-- what isn't said of each compiled model beside: its constraints and decisions, that the names of its objects differ, and that
-- rules, globals and items are few
pub record HasLeft (model : Model) : Type 0 where
  pub few_rules : length model.rules < 2 ^ 32
  pub few_globals : length model.problem.globals ≤ 4096
  pub few_items : length model.problem.items < 2 ^ 32
  pub items : All (IsLawfulItem model OfProblem) model.problem.items
  pub decisions : All (λ placed. IsLawfulDecision model placed.decision) model.problem.decisions
  pub objects_differ : AllPairs ◌≢◌ (map (λ object. object.name) model.objects)

-- a compiled model in whose rules fields fit, and of which this is so, is lawful
abbrev pub LeftMakesLawful : Type 0
LeftMakesLawful = (known : Known) → IsFaultless known → HasFittingRules known → HasLeft (compiled_model known)
    → IsLawful (compiled_model known)
