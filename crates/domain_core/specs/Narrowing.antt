-- What a call that takes values away answers and leaves.
use Rattle.std.specs.Prelude.{◌≡◌, ◌<◌, ◌↔◌, ◌⊎◌, ℤ, List, Contains}
use Rattle.domain_core.specs.Domain.{Domain, Has, IsTested, IsWithin, AreAscending, slack}
use Rattle.domain_core.specs.declared.Change.{Change}
use Rattle.domain_core.specs.declared.Change.TheVariants.{Same, Smaller, Empty}

-- what is left where only values that pass are kept: of a set those, and of a range the least range around those
pub record IsLeft (passes : ℤ → Type 0) (old new : Domain) : Type 0 where
  pub within : IsWithin new old
  pub kept : (value : ℤ) → Has old value → passes value → Has new value
  pub tested : (value : ℤ) → IsTested new value → passes value

-- the values that pass are kept: nothing has to go, or something is left and less than before, or nothing passes,
-- and then nothing changes
abbrev pub Keeps : (ℤ → Type 0) → Domain → Change → Domain → Type 0
Keeps passes old Same new = (new ≡ old) × ((value : ℤ) → IsTested old value → passes value)
Keeps passes old Smaller new = IsLeft passes old new × (slack new < slack old)
Keeps passes old Empty new = (new ≡ old) × ((value : ℤ) → Has old value → passes value → ⊥)

-- what is left where a test is asked: each value of the old domain is left or has failed, and what is left has passed
pub record IsSieved (passed failed : ℤ → Type 0) (old new : Domain) : Type 0 where
  pub within : IsWithin new old
  pub each : (value : ℤ) → Has old value → Has new value ⊎ failed value
  pub tested : (value : ℤ) → IsTested new value → passed value

-- a test is asked of the values: nothing has to go, or something is left and less than before, or all has failed,
-- and then nothing changes
abbrev pub Sieves : (ℤ → Type 0) → (ℤ → Type 0) → Domain → Change → Domain → Type 0
Sieves passed failed old Same new = (new ≡ old) × ((value : ℤ) → IsTested old value → passed value)
Sieves passed failed old Smaller new = IsSieved passed failed old new × (slack new < slack old)
Sieves passed failed old Empty new = (new ≡ old) × ((value : ℤ) → Has old value → failed value)

-- what two steps together answer
abbrev pub joined : Change → Change → Change
joined Same next = next
joined Smaller Same = Smaller
joined Smaller Smaller = Smaller
joined Smaller Empty = Empty
joined Empty next = Empty

-- of the numbers of the first list the second has those that passed, in order, and the others failed
pub record IsSievedPart (passed failed : ℤ → Type 0) (old new : List ℤ) : Type 0 where
  pub ascending : AreAscending new
  pub from : (value : ℤ) → Contains new value → Contains old value × passed value
  pub each : (value : ℤ) → Contains old value → Contains new value ⊎ failed value

-- of the numbers of the first list the second has those that pass, in order
pub record IsPart (passes : ℤ → Type 0) (old new : List ℤ) : Type 0 where
  pub ascending : AreAscending new
  pub items : (value : ℤ) → Contains new value ↔ (Contains old value × passes value)
