-- Parts of two tokens that are merged.
use Rattle.std.specs.Prelude.{◌≡◌, ℕ, List, All, Contains}
use Rattle.eu_name.specs.declared.name.Part.{Part}
use Rattle.eu_name.specs.declared.name.TokenName.{TokenName}
use Rattle.model_core.specs.declared.model.Model.{Model}
use Rattle.plan_defs.specs.Claims.{Claim, HasPart, equal, part_of}
use Rattle.db_store.specs.Stores.{Stored}
use Rattle.db_posting.specs.Origins.{argument_named}
use Rattle.db_posting.specs.Terms.{HasPartAt}

-- the token at the place has each of these parts
abbrev pub HasPartsAt : Stored → ℕ → List Part → Type 0
HasPartsAt stored place parts = All (λ part. HasPartAt stored (record { token = place; part = part })) parts

-- one of these parts is claimed to be the same of the tokens at the two places
abbrev pub ClaimsSamePart : List TokenName → ℕ → ℕ → List Part → Claim → Type 0
ClaimsSamePart names one other parts claim =
    (part : Part) × Contains parts part
    × (claim ≡ equal (argument_named names (record { token = one; part = part }))
    (argument_named names (record { token = other; part = part })))

-- a part of the token, which may be any that it has, is claimed to be the same of the target
abbrev pub ClaimsToBeSame : Model → TokenName → TokenName → Claim → Type 0
ClaimsToBeSame model token target claim =
    (part : Part) × HasPart model token part × (claim ≡ equal (part_of token part) (part_of target part))
