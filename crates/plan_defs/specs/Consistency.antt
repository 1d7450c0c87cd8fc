-- When a claim is consistent in a state.
use Rattle.std.specs.Prelude.{◌≡◌, ℕ, ℤ, List, Some, slice_get}
use Rattle.std.specs.List.{AllZip}
use Rattle.domain_core.specs.Domain.{Domain}
use Rattle.model_core.specs.declared.class.Object.{Object}
use Rattle.model_core.specs.declared.model.Model.{Model}
use Rattle.domain_core.specs.Constraints.{AgreeOn}
use Rattle.model_core.specs.Kinds.{IsObject}
use Rattle.model_core.specs.State.{State, Gives}
use Rattle.plan_defs.specs.Claims.{Claim}
use Rattle.plan_defs.specs.Terms.{HasDomain}

-- the object has this value in this field
abbrev pub HasField : Model → ℕ → ℤ → ℤ → Type 0
HasField model field value content =
    (object : Object) × IsObject model value object × (slice_get object.fields field ≡ Some content)

-- the state has the claim's variables, and the domains of the arguments support each other
pub record IsClaimConsistent (model : Model) (state : State) (claim : Claim) : Type 0 where
  pub domains : List Domain
  pub have : AllZip (HasDomain (Gives state)) claim.arguments domains
  pub agree : AgreeOn (HasField model) claim.kind domains
