-- When a point can be, over all schedules of the edges.
use Rattle.std.specs.Prelude.{ℕ, ℤ, ◌≤ℤ◌, ◌<ℤ◌, List}
use Rattle.temporal_core.specs.declared.edges.Edge.{Edge}
use Rattle.temporal_core.specs.Schedule.{IsSchedule}

-- every schedule has the point at or before the instant
abbrev pub IsBy : List Edge → ℤ → ℕ → Type 0
IsBy edges at point = (value : ℕ → ℤ) → IsSchedule edges value → value point ≤ℤ at

-- some schedule has the point at or before the instant
abbrev pub MayBeBy : List Edge → ℤ → ℕ → Type 0
MayBeBy edges at point = (value : ℕ → ℤ) × IsSchedule edges value × (value point ≤ℤ at)

-- every schedule has the point after the instant
abbrev pub IsAfter : List Edge → ℤ → ℕ → Type 0
IsAfter edges at point = (value : ℕ → ℤ) → IsSchedule edges value → at <ℤ value point

-- some schedule has the point after the instant
abbrev pub MayBeAfter : List Edge → ℤ → ℕ → Type 0
MayBeAfter edges at point = (value : ℕ → ℤ) × IsSchedule edges value × (at <ℤ value point)

-- every schedule has the one point at or before the other
abbrev pub Precedes : List Edge → ℕ → ℕ → Type 0
Precedes edges one other = (value : ℕ → ℤ) → IsSchedule edges value → value one ≤ℤ value other

-- some schedule has the one point at or before the instant, and the other after it
abbrev pub MayPart : List Edge → ℤ → ℕ → ℕ → Type 0
MayPart edges at one other =
    (value : ℕ → ℤ) × IsSchedule edges value × (value one ≤ℤ at) × (at <ℤ value other)
