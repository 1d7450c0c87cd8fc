-- The variables that a model has, and the domain that each is declared with.
use Rattle.std.specs.Prelude.{◌≡◌, ℕ, pos, ◌-ℤ◌, Some, slice_get}
use Rattle.domain_core.specs.Domain.{Domain, Range, IsWithin}
use Rattle.eu_name.specs.declared.name.Part.{Part}
use Rattle.eu_name.specs.declared.name.Part.TheVariants.{Start, End, Duration, Object, Param}
use Rattle.eu_name.specs.declared.name.TokenName.{TokenName}
use Rattle.eu_name.specs.declared.name.VarName.{VarName}
use Rattle.eu_name.specs.declared.name.VarName.TheVariants.{Token, Local, Global}
use Rattle.model_core.specs.declared.class.Pred.{Pred}
use Rattle.model_core.specs.declared.model.Model.{Model}
use Rattle.model_core.specs.declared.rule.Rule.{Rule}
use Rattle.model_core.specs.declared.rule.Slot.{Slot}
use Rattle.model_core.specs.declared.variable.Base.{Base}
use Rattle.model_core.specs.declared.variable.Base.TheVariants.{Given, Void}
use Rattle.model_core.specs.declared.variable.VarDecl.{VarDecl}
use Rattle.model_core.specs.Tokens.{HasRule, HasToken}

-- the problem declares this global
abbrev pub IsGlobal : Model → ℕ → VarDecl → Type 0
IsGlobal model number variable = slice_get model.problem.globals number ≡ Some variable

-- the predicate of this number has this parameter
pub record HasParameter (model : Model) (pred number : ℕ) (variable : VarDecl) : Type 0 where
  pub predicate : Pred
  pub is_predicate : slice_get model.preds pred ≡ Some predicate
  pub declared : slice_get predicate.params number ≡ Some variable

-- a token starts and ends within the horizon and lasts at least 1; its slot says on which objects it may be, and its predicate
-- what the parameters may be
abbrev pub HasPartBase : Model → Slot → Part → Base → Type 0
HasPartBase model slot Start base = base ≡ Given (Range model.problem.start model.problem.end)
HasPartBase model slot End base = base ≡ Given (Range model.problem.start model.problem.end)
HasPartBase model slot Duration base = base ≡ Given (Range (pos 1) (model.problem.end -ℤ model.problem.start))
HasPartBase model slot Object base = base ≡ slot.object
HasPartBase model slot (Param number) base =
    (variable : VarDecl) × HasParameter model slot.pred number variable × (base ≡ variable.base)

-- the token's rule of this number has this local
pub record HasLocal (model : Model) (slot : Slot) (rule number : ℕ) (variable : VarDecl) : Type 0 where
  pub found : Rule
  pub has_rule : HasRule model slot.pred rule found
  pub declared : slice_get found.locals number ≡ Some variable

-- the model has the token with this local, and declares the local with this base
pub record HasLocalBase (model : Model) (token : TokenName) (rule number : ℕ) (base : Base) : Type 0 where
  pub slot : Slot
  pub has_token : HasToken model token slot
  pub variable : VarDecl
  pub has_local : HasLocal model slot rule number variable
  pub is_base : base ≡ variable.base

-- the model has the variable, and declares it with this base
abbrev pub HasBase : Model → VarName → Base → Type 0
HasBase model (Global number) base = (variable : VarDecl) × IsGlobal model number variable × (base ≡ variable.base)
HasBase model (Token token part) base = (slot : Slot) × HasToken model token slot × HasPartBase model slot part base
HasBase model (Local token rule number) base = HasLocalBase model token rule number base

-- the base isn't void
abbrev pub IsGiven : Base → Type 0
IsGiven base = (domain : Domain) × (base ≡ Given domain)

-- the domain lies in the base; nothing lies in a void one
abbrev pub IsInBase : Domain → Base → Type 0
IsInBase domain (Given base) = IsWithin domain base
IsInBase domain Void = ⊥
