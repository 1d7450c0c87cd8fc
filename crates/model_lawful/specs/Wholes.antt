-- What is told of a model, one after another.
use Rattle.std.specs.Prelude.{◌≢◌, ◌<◌, ◌≤◌, ◌^◌, All, AllPairs, Contains, count_by, length}
use Rattle.model_core.specs.declared.model.Model.{Model}
use Rattle.model_core.specs.Kinds.{OfProblem}
use Rattle.model_core.specs.Lawful.{IsHorizon, IsLawfulDecision, IsLawfulEnum, IsLawfulItem, IsLawfulObject, IsLawfulRoot, IsLawfulVariable, is_fact}
use Rattle.model_core.specs.Naming.{builtin_names, declared_names, file_names}
use Rattle.model_rules.specs.Distinct.{AreApart, AreFree}
use Rattle.model_lawful.specs.Classes.{AreInLine, HasLawfulMembers}
use Rattle.model_lawful.specs.Naming.{HaveGlobalNames}
use Rattle.model_lawful.specs.Preds.{AreLawfulPreds}

-- there are as few things as there may be
pub record IsSmallModel (model : Model) : Type 0 where
  pub few_enums : length model.enums < 2 ^ 32
  pub few_classes : length model.classes < 2 ^ 32
  pub few_preds : length model.preds < 2 ^ 32
  pub few_rules : length model.rules < 2 ^ 32
  pub few_objects : length model.objects ≤ 4096
  pub few_roots : length model.problem.roots ≤ 4096
  pub few_globals : length model.problem.globals ≤ 4096
  pub few_items : length model.problem.items < 2 ^ 32

-- the horizon, the enums, the objects, the globals and the decisions are lawful, and the facts few
pub record HasLawfulBasis (model : Model) : Type 0 where
  pub horizon : IsHorizon model.problem
  pub few_facts : count_by (λ root. is_fact root.kind) model.problem.roots ≤ 512
  pub enums : All IsLawfulEnum model.enums
  pub objects : All (IsLawfulObject model) model.objects
  pub globals : All (IsLawfulVariable model) model.problem.globals
  pub decisions : All (λ placed. IsLawfulDecision model placed.decision) model.problem.decisions

-- names are of the right form, and differ where they have to
pub record AreNamed (model : Model) : Type 0 where
  pub globals : HaveGlobalNames model.problem.globals
  pub preds : AreApart model.preds
  pub free : AreFree model.classes model.preds
  pub apart : AllPairs ◌≢◌ (file_names model)
  pub own : All (λ name. Contains builtin_names name → ⊥) (declared_names model)

-- names and the members of classes are lawful
pub record HasLawfulTypes (model : Model) : Type 0 where
  pub named : AreNamed model
  pub members : All (HasLawfulMembers model) model.classes

-- the predicates, the roots and the items are lawful
pub record HasLawfulProblem (model : Model) : Type 0 where
  pub preds : AreLawfulPreds model
  pub roots : All (IsLawfulRoot model) model.problem.roots
  pub items : All (IsLawfulItem model OfProblem) model.problem.items

-- the classes are in line, and what stands on them is lawful
pub record IsLawfulAbove (model : Model) : Type 0 where
  pub line : AreInLine model
  pub problem : HasLawfulProblem model
