-- What is lawful of the enums, classes and predicates of a compiled model.
use Rattle.std.specs.Prelude.{◌≡◌, ◌≢◌, ℕ, Some, All, AllPairs, slice_get}
use Rattle.model_core.specs.declared.class.Class.{Class}
use Rattle.model_core.specs.declared.class.Pred.{Pred}
use Rattle.model_core.specs.Lawful.{IsLawfulClass, IsLawfulEnum, IsLawfulPred}
use Rattle.nddl_problem.specs.Compiled.{compiled_model}
use Rattle.nddl_problem.specs.Known.{Known}
use Rattle.nddl_model_laws.specs.Faultless.{IsFaultless}
use Rattle.nddl_model_laws.specs.Ruled.{HaveLawfulRules}

-- each enum of the model is lawful
abbrev pub ModelsHaveLawfulEnums : Type 0
ModelsHaveLawfulEnums = (known : Known) → IsFaultless known → All IsLawfulEnum (compiled_model known).enums

-- each class is, now that all objects are made
abbrev pub ModelsHaveLawfulClasses : Type 0
ModelsHaveLawfulClasses = (known : Known) → IsFaultless known → (number : ℕ) (class : Class)
    → slice_get (compiled_model known).classes number ≡ Some class → IsLawfulClass (compiled_model known) number class

-- each predicate is, if its rules are
abbrev pub ModelsHaveLawfulPreds : Type 0
ModelsHaveLawfulPreds = (known : Known) → IsFaultless known → HaveLawfulRules (compiled_model known) → (number : ℕ) (pred : Pred)
    → slice_get (compiled_model known).preds number ≡ Some pred → IsLawfulPred (compiled_model known) number pred

-- two predicates of one class have different names
abbrev pub ModelsHaveDistinctPreds : Type 0
ModelsHaveDistinctPreds = (known : Known) → IsFaultless known
    → AllPairs (λ one other. one.class ≡ other.class → one.name ≢ other.name) (compiled_model known).preds
