-- What follows from one pass, whatever the constraint is.
use Rattle.std.specs.Prelude.{◌≡◌, ◌<◌, ℤ, List, [], sum_by, All}
use Rattle.std.specs.List.{AllZip}
use Rattle.domain_core.specs.Domain.{Domain, IsDomain, IsWithin, slack}
use Rattle.domain_core.specs.declared.Change.{Change}
use Rattle.domain_core.specs.declared.Change.TheVariants.{Same, Smaller, Empty}
use Rattle.domain_core.specs.Consistency.{Reach, AreConsistent}
use Rattle.narrow_core.specs.Sweeps.{Sweeps}

-- each domain lies in the other list's at its place
abbrev pub LieWithin : List Domain → List Domain → Type 0
LieWithin inner outer = AllZip IsWithin inner outer

-- consistent domains within these
pub record AreConsistentBelow (reach : Reach) (holds : List ℤ → Type 0) (domains below : List Domain) : Type 0 where
  pub are : All IsDomain below
  pub within : LieWithin below domains
  pub consistent : AreConsistent reach holds below

-- nothing changes, and the domains are consistent; or values go, of which no consistent domains below have one, and
-- at least one domain has less slack; or there are no consistent domains below
abbrev pub Narrows : Reach → (List ℤ → Type 0) → List Domain → Change → List Domain → Type 0
Narrows reach holds old Same new = (new ≡ old) × AreConsistent reach holds old
Narrows reach holds old Smaller new =
    LieWithin new old × (sum_by slack new < sum_by slack old)
    × ((below : List Domain) → AreConsistentBelow reach holds old below → LieWithin below new)
Narrows reach holds old Empty new =
    LieWithin new old × ((below : List Domain) → AreConsistentBelow reach holds old below → ⊥)

-- of more, more is left: where something is left of the domains, something is left of larger ones, and what is left
-- of the smaller lies in it
abbrev pub IsMonotone : Reach → (List ℤ → Type 0) → Type 0
IsMonotone reach holds =
    (old new wide wide_new : List Domain) (change wide_change : Change) → All IsDomain old → All IsDomain new
    → All IsDomain wide → All IsDomain wide_new → LieWithin old wide
    → Sweeps reach holds [] old change new → Sweeps reach holds [] wide wide_change wide_new
    → (change ≡ Empty → ⊥) → (wide_change ≡ Empty → ⊥) × LieWithin new wide_new

-- on single values the answer is whether the constraint holds of them
abbrev pub Decides : Change → Type 0 → Type 0
Decides Same holds = holds
Decides Smaller holds = ⊥
Decides Empty holds = holds → ⊥
