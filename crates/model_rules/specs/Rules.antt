-- What is told of a rule.
use Rattle.std.specs.Prelude.{◌≡◌, ℕ, [], length, All}
use Rattle.model_core.specs.declared.model.Model.{Model}
use Rattle.model_core.specs.declared.rule.Rule.{Rule}
use Rattle.model_core.specs.declared.variable.Base.{Base}
use Rattle.model_core.specs.declared.variable.ValueKind.TheVariants as kinds
use Rattle.model_core.specs.Kinds.{AreObjectsOf, IsBaseOf}
use Rattle.model_core.specs.Lawful.{IsLawfulBase, IsLawfulSlot, IsLawfulVariable}
use Rattle.model_rules.specs.declared.numbers.Sort.TheVariants.{Slots, Locals}
use Rattle.model_rules.specs.Nested.{IsLawfulBlock}
use Rattle.model_rules.specs.Numbered.{AreOnce, numbers_of}

-- the base is a lawful one of objects, which are of the class
pub record IsBaseOfClass (model : Model) (class : ℕ) (base : Base) : Type 0 where
  pub base_is : IsLawfulBase base
  pub inside : IsBaseOf model kinds.Object base
  pub objects : AreObjectsOf model class base

-- the slots and the locals of the rule are lawful
pub record HasLawfulParts (model : Model) (rule : Rule) : Type 0 where
  pub slots : All (IsLawfulSlot model) rule.slots
  pub locals : All (IsLawfulVariable model) rule.locals
  pub unnamed : All (λ variable. variable.name ≡ []) rule.locals

-- each slot and local stands once in the blocks, which are lawful
pub record StandsNested (model : Model) (pred : ℕ) (rule : Rule) : Type 0 where
  pub slots : AreOnce (length rule.slots) (numbers_of Slots rule.top)
  pub locals : AreOnce (length rule.locals) (numbers_of Locals rule.top)
  pub blocks : IsLawfulBlock model pred rule 0 [] rule.top
