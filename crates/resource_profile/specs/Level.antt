-- The level that changes leave at an instant.
use Rattle.std.specs.Prelude.{ℤ, pos, negsuc, ◌+ℤ◌, ◌≤ℤ◌, ◌<ℤ◌}
use Rattle.std.specs.Prelude.{◌⊎◌, int_le, if◌then◌else◌, List, [], ◌∷◌}
use Rattle.resource_profile.specs.declared.level.LevelChange.{LevelChange}
use Rattle.resource_profile.specs.declared.level.Limit.{Limit}
use Rattle.resource_profile.specs.declared.level.Limit.TheVariants.{Low, High}

-- a change adds or takes a million at most
abbrev pub IsSmall : LevelChange → Type 0
IsSmall change = (negsuc 999999 ≤ℤ change.add) × (change.add ≤ℤ pos 1000000)

-- what the change adds, if it has happened by the instant
abbrev pub added_at : LevelChange → ℤ → ℤ
added_at change instant = if int_le change.at instant then change.add else pos 0

-- the initial level with all that was added by the instant
abbrev pub level_at : List LevelChange → ℤ → ℤ → ℤ
level_at [] initial instant = initial
level_at (change ∷ changes) initial instant = added_at change instant +ℤ level_at changes initial instant

-- the level is below the least that is allowed, or above the greatest
abbrev pub IsPast : Limit → ℤ → Type 0
IsPast (Low low) level = level <ℤ low
IsPast (High high) level = high <ℤ level

-- the level at the instant is past the limit
abbrev pub IsPastAt : List LevelChange → ℤ → Limit → ℤ → Type 0
IsPastAt changes initial limit instant = IsPast limit (level_at changes initial instant)

-- the instant isn't before `from`, and the level at it is past the limit
abbrev pub IsPastFrom : List LevelChange → ℤ → Limit → ℤ → ℤ → Type 0
IsPastFrom changes initial limit from instant = (from ≤ℤ instant) × IsPastAt changes initial limit instant

-- the level at the instant is outside of the limits
abbrev pub IsOut : List LevelChange → ℤ → ℤ → ℤ → ℤ → Type 0
IsOut changes initial low high instant =
    (level_at changes initial instant <ℤ low) ⊎ (high <ℤ level_at changes initial instant)

-- the instant isn't before `from`, and the level at it is outside of the limits
abbrev pub IsOutFrom : List LevelChange → ℤ → ℤ → ℤ → ℤ → ℤ → Type 0
IsOutFrom changes initial low high from instant = (from ≤ℤ instant) × IsOut changes initial low high instant
