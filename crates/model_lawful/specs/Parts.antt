-- What tokens and variables a model has, by predicates, and roots and objects beside what they are of.
use Rattle.std.specs.Prelude.{◌≡◌, ℕ, ⊤, Some, slice_get, All}
use Rattle.std.specs.List.{AllZip}
use Rattle.domain_core.specs.Domain.{IsDomain}
use Rattle.eu_name.specs.declared.name.Part.{Part}
use Rattle.eu_name.specs.declared.name.Part.TheVariants as parts
use Rattle.eu_name.specs.declared.name.VarName.{VarName}
use Rattle.eu_name.specs.Word.{IsName}
use Rattle.model_core.specs.declared.class.Class.{Class}
use Rattle.model_core.specs.declared.class.Object.{Object}
use Rattle.model_core.specs.declared.class.Pred.{Pred}
use Rattle.model_core.specs.declared.model.Model.{Model}
use Rattle.model_core.specs.declared.model.Root.{Root}
use Rattle.model_core.specs.declared.rule.Rule.{Rule}
use Rattle.model_core.specs.declared.variable.Base.{Base}
use Rattle.model_core.specs.declared.variable.Base.TheVariants.{Given}
use Rattle.model_core.specs.declared.variable.ValueKind.TheVariants as kinds
use Rattle.model_core.specs.declared.variable.VarDecl.{VarDecl}
use Rattle.model_core.specs.Kinds.{AreObjectsOf, IsBaseOf, IsValueOf}
use Rattle.model_core.specs.Lawful.{IsLawfulKind}
use Rattle.model_core.specs.Naming.{IsObjectName}
use Rattle.model_core.specs.Tokens.{HasRule}
use Rattle.model_core.specs.Variables.{HasBase, HasParameter, IsGiven}

-- a token of the predicate has the part
abbrev pub HasPart : Model → ℕ → Part → Type 0
HasPart model pred (parts.Param number) = (variable : VarDecl) × HasParameter model pred number variable
HasPart model pred part = ⊤

-- a rule of the predicate has the local
abbrev pub HasRuleLocal : Model → ℕ → ℕ → ℕ → Type 0
HasRuleLocal model pred rule number =
    (found : Rule) × (variable : VarDecl) × HasRule model pred rule found × (slice_get found.locals number ≡ Some variable)

-- the model has the variable
abbrev pub HasVariable : Model → VarName → Type 0
HasVariable model variable = (base : Base) × HasBase model variable base

-- the root is lawful as one of the predicate
pub record IsRootOf (model : Model) (pred : Pred) (root : Root) : Type 0 where
  pub label : IsName root.label
  pub given : All (λ variable. IsGiven variable.base) pred.params
  pub object : IsDomain root.object
  pub inside : IsBaseOf model kinds.Object (Given root.object)
  pub objects : AreObjectsOf model pred.class (Given root.object)

-- the object is lawful as one of the class
pub record IsOfItsClass (model : Model) (class : Class) (object : Object) : Type 0 where
  pub name : IsObjectName object.name
  pub fields : AllZip (λ variable value. IsValueOf model variable.kind value) class.fields object.fields
  pub kind : IsLawfulKind object.kind
