-- Values that the parts of tokens are declared with.
use Rattle.std.specs.Prelude.{◌≡◌, ℤ, List, Some, slice_get}
use Rattle.eu_name.specs.declared.name.Part.{Part}
use Rattle.eu_name.specs.declared.name.TokenName.{TokenName}
use Rattle.eu_name.specs.declared.name.VarName.TheVariants as variables
use Rattle.model_core.specs.declared.model.Model.{Model}
use Rattle.plan_defs.specs.Claims.{HasPart}
use Rattle.plan_defs.specs.Plans.{place_in_values}
use Rattle.plan_defs.specs.Refusals.{IsDeclared}

-- among the values of a token is one for this part, and it is declared so
abbrev pub IsDeclaredIn : Model → TokenName → List ℤ → Part → Type 0
IsDeclaredIn model token values part =
    (value : ℤ) × (slice_get values (place_in_values part) ≡ Some value) × IsDeclared model (variables.Token token part) value

-- so it is with each part that the token has
abbrev pub AreDeclaredIn : Model → TokenName → List ℤ → Type 0
AreDeclaredIn model token values = (part : Part) → HasPart model token part → IsDeclaredIn model token values part
