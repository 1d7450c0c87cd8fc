-- The variables that come with a token, by its place.
use Rattle.std.specs.Prelude.{◌≡◌, ◌↔◌, ℕ, List, Option, Some, None, Contains, option_copied}
use Rattle.domain_core.specs.Domain.{Domain}
use Rattle.eu_name.specs.declared.name.Part.{Part}
use Rattle.model_core.specs.declared.model.Model.{Model}
use Rattle.model_core.specs.declared.rule.Slot.{Slot}
use Rattle.model_core.specs.declared.variable.Base.{Base}
use Rattle.model_core.specs.declared.variable.Base.TheVariants.{Given, Void}
use Rattle.model_core.specs.Variables.{HasPartBase}
use Rattle.db_store.specs.declared.key.VarKey.{VarKey}
use Rattle.db_store.specs.declared.key.VarKey.TheVariants as keys
use Rattle.db_opening.specs.declared.parts.Asked.{Asked}

-- the base of this domain; void where there is none
abbrev pub base_given : Option Domain → Base
base_given (Some domain) = Given domain
base_given None = Void

-- the slot that asks for it
abbrev pub slot_asked : Asked → Slot
slot_asked asked = record { pred = asked.pred; object = base_given (option_copied asked.object) }

-- the parts are those that a token of this slot has
abbrev pub ArePartsOf : Model → Slot → List Part → Type 0
ArePartsOf model slot parts = (part : Part) → Contains parts part ↔ ((base : Base) × HasPartBase model slot part base)

-- the variable is this part of the token at the place, with its base
pub record WantsPart (model : Model) (slot : Slot) (place : ℕ) (part : Part) (key : VarKey) (base : Base) : Type 0 where
  pub is : key ≡ keys.Part place part
  pub has_base : HasPartBase model slot part base

-- the variable is one of these parts of the token at the place, with its base
pub record WantsParts (model : Model) (slot : Slot) (place : ℕ) (parts : List Part) (key : VarKey) (base : Base) : Type 0 where
  pub part : Part
  pub listed : Contains parts part
  pub wants : WantsPart model slot place part key base
