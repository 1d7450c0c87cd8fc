-- A schedule in which no point that may be after the instant is before it.
use Rattle.std.specs.Prelude.{◌≡◌, ℕ, ◌<◌, ℤ, ◌+ℤ◌, ◌≤ℤ◌, List, length, Option, Some, None}
use Rattle.std.specs.Prelude.{MatchOption, Contains}
use Rattle.std.specs.Prelude.{slice_index_or, ⊤}
use Rattle.temporal_core.specs.declared.edges.Edge.{Edge}
use Rattle.temporal_core.specs.Schedule.{IsSchedule}
use Rattle.temporal_core.specs.Satisfied.{value_at, IsNear}

-- the value of the point among those that there are
abbrev pub bound_at : List (Option ℤ) → ℕ → Option ℤ
bound_at bounds point = slice_index_or bounds point None

-- the points, each by its number, that have no value
pub record AreFree (bounds : List (Option ℤ)) (limit : ℕ) (free : List ℕ) : Type 0 where
  pub each : (point : ℕ) → Contains free point → (point < length bounds) × (bound_at bounds point ≡ None)
  pub all : (point : ℕ) → point < limit → bound_at bounds point ≡ None → Contains free point

-- the greatest value, if there is one; else the least one, so much later
abbrev pub joined_of : Option ℤ → Option ℤ → ℤ → ℤ
joined_of (Some high) low lift = high
joined_of None (Some low) lift = low +ℤ lift
joined_of None None lift = lift

-- a value that is taken later is a modest one
abbrev pub CanBeLifted : Option ℤ → Option ℤ → Type 0
CanBeLifted (Some high) low = ⊤
CanBeLifted None low = MatchOption low ⊤ IsNear

-- such a value for each point
pub record IsJoined (greatest least : List (Option ℤ)) (lift : ℤ) (values : List ℤ) : Type 0 where
  pub count : length values ≡ length greatest
  pub each : (point : ℕ) → point < length greatest
      → value_at values point ≡ joined_of (bound_at greatest point) (bound_at least point) lift

-- no value is above the limit
abbrev pub AreUpTo : ℤ → List (Option ℤ) → Type 0
AreUpTo limit bounds = (point : ℕ) → MatchOption (bound_at bounds point) ⊤ (λ value. value ≤ℤ limit)

-- a schedule of the edges that has no point at or before the instant that one of these schedules has after it
pub record IsLatest (points : ℕ) (edges others : List Edge) (at : ℤ) (values : List ℤ) : Type 0 where
  pub count : length values ≡ points
  pub schedule : IsSchedule edges (value_at values)
  pub latest : (point : ℕ) → point < points → value_at values point ≤ℤ at
      → (value : ℕ → ℤ) → IsSchedule others value → value point ≤ℤ at
  pub early : (point : ℕ) → point < points
      → ((value : ℕ → ℤ) → IsSchedule others value → value point ≤ℤ at) → value_at values point ≤ℤ at
