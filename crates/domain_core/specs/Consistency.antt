-- When the domains of a constraint's arguments support each other.
use Rattle.std.specs.Prelude.{◌≡◌, ℤ, List, ◌∷◌, ◌++◌}
use Rattle.std.specs.List.{AllZip}
use Rattle.domain_core.specs.Domain.{Domain, IsTested, IsBetweenEnds, Has}

-- which values of the other arguments count: those that their domains have, or all whole numbers between the domains' ends
pub data Reach : Type 0 where
  Values : Reach
  Ends : Reach

-- the domain of another argument admits the value
abbrev pub Admits : Reach → Domain → ℤ → Type 0
Admits Values domain value = Has domain value
Admits Ends domain value = IsBetweenEnds domain value

-- the value of the domain that stands between these others is part of a tuple that the constraint holds of and that the
-- others admit
abbrev pub IsSupported : Reach → (List ℤ → Type 0) → List Domain → ℤ → List Domain → Type 0
IsSupported reach holds before value after =
    (left right : List ℤ)
    × AllZip (Admits reach) before left × AllZip (Admits reach) after right × holds (left ++ value ∷ right)

-- each tested value of each domain has such a tuple
abbrev pub AreConsistent : Reach → (List ℤ → Type 0) → List Domain → Type 0
AreConsistent reach holds domains =
    (before : List Domain) (domain : Domain) (after : List Domain) (value : ℤ)
    → domains ≡ before ++ domain ∷ after → IsTested domain value → IsSupported reach holds before value after
