-- Sets of one number.
use Rattle.std.proofs.Common.{◌≡◌, ℤ, [], ◌∷◌, Ok, ◌∙◌, ap}
use Rattle.domain_core.specs.Domain.{Domain, Set}
use Rattle.domain_core.specs.Lists.{MakesSet}
use Rattle.nddl_declarations.specs.Ascending.{ascending_of}
use Rattle.nddl_declarations.proofs.Placing.{made_ascending}

-- the set that is made of one number has it alone
pub made_alone : (value kept : ℤ) (domain : Domain) → kept ≡ value → MakesSet (kept ∷ []) (Ok domain) → domain ≡ Set (value ∷ [])
unfolding ascending_of
made_alone value kept domain same made =
    made_ascending (kept ∷ []) domain made ∙ ap (λ number. Set (number ∷ [])) same
