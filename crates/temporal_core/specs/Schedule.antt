-- When the points can be.
use Rattle.std.specs.Prelude.{◌≡◌, ℕ, ◌<◌, ℤ, pos, ◌+ℤ◌, ◌≤ℤ◌}
use Rattle.std.specs.Prelude.{List, length, All, Option, Some, None, slice_index_or}
use Rattle.temporal_core.specs.declared.edges.Edge.{Edge}

-- the edge's second point comes no sooner than the gap after the first
abbrev pub KeepsEdge : (ℕ → ℤ) → Edge → Type 0
KeepsEdge value edge = (value edge.from +ℤ edge.gap) ≤ℤ value edge.to

-- a schedule gives each point a whole number, the origin 0, and keeps each edge
pub record IsSchedule (edges : List Edge) (value : ℕ → ℤ) : Type 0 where
  pub origin : value 0 ≡ pos 0
  pub keeps : All (KeepsEdge value) edges

-- no values are a schedule of the edges
abbrev pub HasNoSchedule : List Edge → Type 0
HasNoSchedule edges = (value : ℕ → ℤ) → IsSchedule edges value → ⊥

-- the least value that a schedule gives the point; or there is none, since for each number a schedule gives it that
-- or less
abbrev pub IsLeastValue : List Edge → ℕ → Option ℤ → Type 0
IsLeastValue edges point (Some least) =
    ((value : ℕ → ℤ) → IsSchedule edges value → least ≤ℤ value point)
    × ((value : ℕ → ℤ) × IsSchedule edges value × (value point ≡ least))
IsLeastValue edges point None = (limit : ℤ) → (value : ℕ → ℤ) × IsSchedule edges value × (value point ≤ℤ limit)

-- the greatest value that a schedule gives the point; or there is none, since for each number a schedule gives it
-- that or more
abbrev pub IsGreatestValue : List Edge → ℕ → Option ℤ → Type 0
IsGreatestValue edges point (Some greatest) =
    ((value : ℕ → ℤ) → IsSchedule edges value → value point ≤ℤ greatest)
    × ((value : ℕ → ℤ) × IsSchedule edges value × (value point ≡ greatest))
IsGreatestValue edges point None = (limit : ℤ) → (value : ℕ → ℤ) × IsSchedule edges value × (limit ≤ℤ value point)

-- for each point, by its number, the least value
pub record AreLeastValues (points : ℕ) (edges : List Edge) (values : List (Option ℤ)) : Type 0 where
  pub count : length values ≡ points
  pub each : (point : ℕ) → point < points → IsLeastValue edges point (slice_index_or values point None)

-- for each point, by its number, the greatest value
pub record AreGreatestValues (points : ℕ) (edges : List Edge) (values : List (Option ℤ)) : Type 0 where
  pub count : length values ≡ points
  pub each : (point : ℕ) → point < points → IsGreatestValue edges point (slice_index_or values point None)
