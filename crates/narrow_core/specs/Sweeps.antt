-- What one pass over the arguments of a constraint answers and leaves.
use Rattle.std.specs.Prelude.{◌≡◌, ℕ, ℤ, List, [], ◌∷◌, ◌++◌, length}
use Rattle.domain_core.specs.Domain.{Domain, IsTested}
use Rattle.domain_core.specs.Narrowing.{Keeps, joined}
use Rattle.domain_core.specs.declared.Change.{Change}
use Rattle.domain_core.specs.declared.Change.TheVariants.{Same, Empty}
use Rattle.domain_core.specs.Consistency.{Reach, IsSupported}

-- each value of the domain that has to be supported passes
abbrev pub AllTested : (ℤ → Type 0) → Domain → Type 0
AllTested passes domain = (value : ℤ) → IsTested domain value → passes value

-- from the first argument on, each keeps the values that have a tuple with the arguments before it, as they are
-- left, and those after it, as they still are; where one has none, the pass ends there
abbrev pub Sweeps : Reach → (List ℤ → Type 0) → List Domain → List Domain → Change → List Domain → Type 0
Sweeps reach holds left [] change new = (change ≡ Same) × (new ≡ [])
Sweeps reach holds left (old ∷ later) change [] = ⊥
Sweeps reach holds left (old ∷ later) change (new ∷ rest) =
    (first : Change) × Keeps (λ value. IsSupported reach holds left value later) old first new
    × (first ≡ Empty → (change ≡ Empty) × (rest ≡ later))
    × ((first ≡ Empty → ⊥)
    → (next : Change) × (change ≡ joined first next) × Sweeps reach holds (left ++ new ∷ []) later next rest)

-- one argument keeps the values that the others support, and the others stay as they are
pub record NarrowsAt (reach : Reach) (holds : List ℤ → Type 0) (place : ℕ)
    (old : List Domain) (change : Change) (new : List Domain) : Type 0 where
  pub before : List Domain
  pub was : Domain
  pub is : Domain
  pub after : List Domain
  pub at : length before ≡ place
  pub old_is : old ≡ before ++ was ∷ after
  pub new_is : new ≡ before ++ is ∷ after
  pub kept : Keeps (λ value. IsSupported reach holds before value after) was change is
