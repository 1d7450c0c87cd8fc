-- Instants: all whole numbers.
use Rattle.std.specs.Prelude.{◌≡◌, ◌⊎◌, ℤ, ◌≤ℤ◌, ◌<ℤ◌, Option, Some, None}

-- it is so at the instant, and at no earlier one
abbrev pub IsFirst : (ℤ → Type 0) → ℤ → Type 0
IsFirst is_so instant = is_so instant × ((earlier : ℤ) → earlier <ℤ instant → ¬ is_so earlier)

-- the last is the earlier of the first two, or the only one, or there is none
abbrev pub IsEarlier : Option ℤ → Option ℤ → Option ℤ → Type 0
IsEarlier None None found = found ≡ None
IsEarlier None (Some other) found = found ≡ Some other
IsEarlier (Some one) None found = found ≡ Some one
IsEarlier (Some one) (Some other) found =
    (least : ℤ) × ((found ≡ Some least) × ((least ≡ one) ⊎ (least ≡ other)) × (least ≤ℤ one) × (least ≤ℤ other))
