-- What uses of a resource take at an instant.
use Rattle.std.specs.Prelude.{ℤ, pos, ◌+ℤ◌, ◌<ℤ◌, int_le, int_lt, ◌&&◌, if◌then◌else◌, List, [], ◌∷◌}
use Rattle.resource_profile.specs.declared.usage.Use.{Use}

-- the quantity of the use, if it has begun by the instant and hasn't ended
abbrev pub quantity_at : Use → ℤ → ℤ
quantity_at usage instant = if int_le usage.from instant && int_lt instant usage.until then usage.quantity else pos 0

-- the sum of the quantities in use at the instant
abbrev pub taken_at : List Use → ℤ → ℤ
taken_at [] instant = pos 0
taken_at (usage ∷ uses) instant = quantity_at usage instant +ℤ taken_at uses instant

-- more is in use at the instant than the capacity
abbrev pub IsOverUsed : List Use → ℤ → ℤ → Type 0
IsOverUsed uses capacity instant = capacity <ℤ taken_at uses instant
