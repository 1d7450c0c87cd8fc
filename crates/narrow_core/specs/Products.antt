-- Products by a factor, and the law that ties them to the constraint of three arguments.
use Rattle.std.specs.Prelude.{◌↔◌, ℤ, ◌*ℤ◌, ◌≤ℤ◌, [], ◌∷◌}
use Rattle.domain_core.specs.Domain.{Domain, IsDomain, IsSingle, IsBetweenEnds}
use Rattle.domain_core.specs.Consistency.{Ends, AreConsistent}
use Rattle.domain_core.specs.Constraints.{HoldsOf}
use Rattle.domain_core.specs.declared.kind.Kind.TheVariants.{MulEq}
use Rattle.narrow_core.specs.Meanings.{IsProduct}

-- where the second of three arguments is the factor alone, the other two are consistent by themselves exactly where
-- all three are
abbrev pub IsLikeThree : ℤ → Type 0
IsLikeThree factor =
    (x middle z : Domain) → IsDomain x → IsDomain middle → IsDomain z → IsSingle middle factor
    → AreConsistent Ends (HoldsOf MulEq) (x ∷ middle ∷ z ∷ []) ↔ AreConsistent Ends (IsProduct factor) (x ∷ z ∷ [])

-- the value lies between the two, both included
abbrev pub LiesBetween : ℤ → ℤ → ℤ → Type 0
LiesBetween low high value = (low ≤ℤ value) × (value ≤ℤ high)

-- from the first number to the last lie those between the ends of x whose products lie between low and high
abbrev pub AreMultiplied : ℤ → Domain → ℤ → ℤ → ℤ → ℤ → Type 0
AreMultiplied factor x low high first last =
    (value : ℤ) → ((first ≤ℤ value) × (value ≤ℤ last))
    ↔ (IsBetweenEnds x value × (low ≤ℤ (value *ℤ factor)) × ((value *ℤ factor) ≤ℤ high))
