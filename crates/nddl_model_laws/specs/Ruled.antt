-- What is lawful of the rules of a predicate.
use Rattle.std.specs.Prelude.{◌≡◌, ℕ, List, Some, All, slice_get}
use Rattle.std.specs.List.{AllZip}
use Rattle.model_core.specs.declared.class.Pred.{Pred}
use Rattle.model_core.specs.declared.model.Model.{Model}
use Rattle.model_core.specs.declared.rule.Rule.{Rule}
use Rattle.model_core.specs.Lawful.{AreFew, IsLawfulRule}

-- the rules of the predicate of this number are there, are few, and are lawful for it
pub record PredHasLawfulRules (model : Model) (number : ℕ) (pred : Pred) : Type 0 where
  pub rules : List Rule
  pub are_rules : AllZip (λ place rule. slice_get model.rules place ≡ Some rule) pred.rules rules
  pub few : AreFew rules
  pub lawful : All (IsLawfulRule model number) rules

-- those of each predicate
abbrev pub HaveLawfulRules : Model → Type 0
HaveLawfulRules model =
    (number : ℕ) (pred : Pred) → slice_get model.preds number ≡ Some pred → PredHasLawfulRules model number pred
