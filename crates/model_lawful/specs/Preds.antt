-- The rules of predicates.
use Rattle.std.specs.Prelude.{◌≡◌, ◌≢◌, ℕ, pos, ◌≤◌, List, Some, length, slice_get, All, AllPairs}
use Rattle.std.specs.List.{AllZip}
use Rattle.domain_core.specs.Domain.{Domain, IsRange, least, greatest}
use Rattle.eu_name.specs.Word.{IsName}
use Rattle.model_core.specs.declared.class.Class.{Class}
use Rattle.model_core.specs.declared.class.Pred.{Pred}
use Rattle.model_core.specs.declared.model.Model.{Model}
use Rattle.model_core.specs.declared.rule.Rule.{Rule}
use Rattle.model_core.specs.Lawful.{AreFew, HasQuantity, IsLawfulRule, IsLawfulVariable}
use Rattle.model_core.specs.Naming.{IsParameterName, names_of}

-- these are the rules of these numbers
abbrev pub AreRules : Model → List ℕ → List Rule → Type 0
AreRules model places rules = AllZip (λ place rule. slice_get model.rules place ≡ Some rule) places rules

-- the rules are few and lawful
pub record AreLawfulRules (model : Model) (number : ℕ) (rules : List Rule) : Type 0 where
  pub few : AreFew rules
  pub lawful : All (IsLawfulRule model number) rules

-- there are such rules
abbrev pub HasLawfulRules : Model → ℕ → Pred → Type 0
HasLawfulRules model number pred = (rules : List Rule) × AreRules model pred.rules rules × AreLawfulRules model number rules

-- the parameters are few, and lawful variables
pub record HasFewParams (model : Model) (pred : Pred) : Type 0 where
  pub params : All (IsLawfulVariable model) pred.params
  pub few_params : length pred.params ≤ 32

-- the parameters are lawful and few, and have names that differ
pub record HasLawfulParams (model : Model) (pred : Pred) : Type 0 where
  pub params : All (IsLawfulVariable model) pred.params
  pub few_params : length pred.params ≤ 32
  pub names : All IsParameterName (names_of pred.params)
  pub distinct : AllPairs ◌≢◌ (names_of pred.params)
  pub quantity : HasQuantity pred.kind pred.params

-- there is the class of this number
abbrev pub HasClass : Model → ℕ → Type 0
HasClass model class = (found : Class) × (slice_get model.classes class ≡ Some found)

-- the predicate has a name, and a class that there is
pub record IsOfAClass (model : Model) (pred : Pred) : Type 0 where
  pub name : IsName pred.name
  pub class : Class
  pub is_class : slice_get model.classes pred.class ≡ Some class

-- all that is asked of a predicate but that no field of its class has its name
pub record HasAllLawful (model : Model) (number : ℕ) (pred : Pred) : Type 0 where
  pub params : HasLawfulParams model pred
  pub rules : HasLawfulRules model number pred
  pub of_class : IsOfAClass model pred

-- it is so of each predicate of the list by its number
abbrev pub AreLawfulInOrder : Model → List Pred → Type 0
AreLawfulInOrder model preds = (number : ℕ) (pred : Pred) → slice_get preds number ≡ Some pred → HasAllLawful model number pred

-- and of all of them
abbrev pub AreLawfulPreds : Model → Type 0
AreLawfulPreds model = AreLawfulInOrder model model.preds

-- the domain is a range with the ends of quantities
abbrev pub HasQuantityEnds : Domain → Type 0
HasQuantityEnds domain = IsRange domain × (least domain ≡ pos 0) × (greatest domain ≡ pos 1000000)
