-- Values that bases have.
use Rattle.std.specs.Prelude.{ℕ, ℤ}
use Rattle.domain_core.specs.Domain.{Has}
use Rattle.eu_name.specs.declared.name.TokenName.{TokenName}
use Rattle.model_core.specs.declared.model.Model.{Model}
use Rattle.model_core.specs.declared.rule.Slot.{Slot}
use Rattle.model_core.specs.declared.variable.Base.{Base}
use Rattle.model_core.specs.declared.variable.Base.TheVariants.{Given, Void}
use Rattle.model_core.specs.declared.variable.VarDecl.{VarDecl}
use Rattle.model_core.specs.Tokens.{HasToken}
use Rattle.model_core.specs.Variables.{HasParameter}

-- the base has the value; a void one has none
abbrev pub BaseHas : Base → ℤ → Type 0
BaseHas (Given domain) value = Has domain value
BaseHas Void value = ⊥

-- the model has the token, which may be on this object
abbrev pub MayBeObject : Model → TokenName → ℤ → Type 0
MayBeObject model token value = (slot : Slot) × HasToken model token slot × BaseHas slot.object value

-- the predicate has the parameter of this number, which may have the value
abbrev pub MayBeParameter : Model → ℕ → ℕ → ℤ → Type 0
MayBeParameter model pred number value =
    (variable : VarDecl) × HasParameter model pred number variable × BaseHas variable.base value
