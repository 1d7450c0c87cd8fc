-- What is known of a model's types before its variables and constraints are tested, and of which classes its variables are.
use Rattle.std.specs.Prelude.{◌↔◌, ℕ, ◌<◌, ◌≤◌, ◌^◌, List, Option, length, All}
use Rattle.eu_forest.specs.Lines.{IsRooted, StandsUnder}
use Rattle.model_core.specs.declared.model.Model.{Model}
use Rattle.model_core.specs.Kinds.{IsParentClass}
use Rattle.model_core.specs.Lawful.{IsLawfulEnum}
use Rattle.model_typing.specs.declared.table.Classes.{Classes}
use Rattle.model_typing.specs.Lines.{AreLinesOf, ArePredLines}

-- these are what the classes extend, and each class that extends one leads up to one that extends none
pub record AreClassParents (model : Model) (parents : List (Option ℕ)) : Type 0 where
  pub same : (class parent : ℕ) → IsParentClass model class parent ↔ StandsUnder parents class parent
  pub rooted : (class parent : ℕ) → IsParentClass model class parent → IsRooted parents class

-- these are what the classes extend, and the lines of the globals and of the parameters
pub record AreClasses (model : Model) (classes : Classes) : Type 0 where
  pub parents_are : AreClassParents model classes.parents
  pub globals_are : AreLinesOf model model.problem.globals classes.globals.items
  pub params_are : ArePredLines model model.preds classes.params.items

-- the enums are lawful, objects and classes are few, and this is known of the classes
pub record IsGround (model : Model) (classes : Classes) : Type 0 where
  pub enums : All IsLawfulEnum model.enums
  pub few_objects : length model.objects ≤ 4096
  pub few_classes : length model.classes < 2 ^ 32
  pub classes_are : AreClasses model classes
