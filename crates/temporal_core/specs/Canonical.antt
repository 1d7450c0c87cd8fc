-- What the search for the canonical cycle goes through.
use Rattle.std.specs.Prelude.{◌≡◌, ℕ, ◌+◌, ◌-◌, ◌<◌, ◌≤◌, ℤ, pos, ◌⊎◌, ◌↔◌}
use Rattle.std.specs.Prelude.{List, [], ◌++◌, length, All, Contains, slice_index_or}
use Rattle.std.specs.List.{range_with_len}
use Rattle.temporal_core.specs.declared.edges.Edge.{Edge}
use Rattle.temporal_core.specs.declared.satisfied.Satisfied.{Satisfied}
use Rattle.temporal_core.specs.declared.thinned.Part.{Part}
use Rattle.temporal_core.specs.Network.{IsEdge}
use Rattle.temporal_core.specs.Schedule.{KeepsEdge, IsSchedule, HasNoSchedule}
use Rattle.temporal_core.specs.Cycle.{edges_at, LeavesNeeded, IsPositiveCycle, BeginsLeast}
use Rattle.temporal_core.specs.Satisfied.{value_at, IsGraph, AreKept, HasPositiveCycle}

-- the edge at the place
abbrev pub edge_at : List Edge → ℕ → Edge
edge_at edges place = slice_index_or edges place (record { from = 0; to = 0; gap = pos 0 })

-- the places from this one on, where there are so many
abbrev pub places_from : ℕ → ℕ → List ℕ
places_from first count = range_with_len first (count - first)

-- the place is the last one, not before the first, from which on the edges have no schedule together with those
-- that stay
pub record IsNextNeeded (edges : List Edge) (kept : List ℕ) (first place : ℕ) : Type 0 where
  pub after : first ≤ place
  pub within : place < length edges
  pub none : HasNoSchedule (edges_at edges (kept ++ places_from place (length edges)))
  pub some : (value : ℕ → ℤ) × IsSchedule (edges_at edges (kept ++ places_from (place + 1) (length edges))) value

-- an edge from the same point that any values keep
abbrev pub idle_edge : Edge → Edge
idle_edge edge = record { from = edge.from; to = edge.from; gap = pos 0 }

-- the first of the places that stay: its edge is the one that the values needn't keep
abbrev pub missing : List ℕ → ℕ
missing kept = slice_index_or kept 0 0

-- the place stays, or isn't dealt with yet
abbrev pub Stays : List ℕ → ℕ → ℕ → Type 0
Stays kept first place = Contains kept place ⊎ (first ≤ place)

-- a graph of the edges that stay and of those from the first on, but for the missing one: each of the others has an
-- idle edge in its place. The values keep all edges behind the missing one.
pub record IsThinned (points : ℕ) (edges : List Edge) (kept : List ℕ) (first : ℕ) (thinned : Satisfied) : Type 0 where
  pub joins : All (IsEdge points) edges
  pub graph : IsGraph points thinned.graph.edges.items thinned.graph
  pub values : AreKept points [] thinned.values.items
  pub keeps : (place : ℕ) → missing kept < place → place < length edges
      → KeepsEdge (value_at thinned.values.items) (edge_at edges place)
  pub count : length thinned.graph.edges.items ≡ length edges
  pub each : (place : ℕ) → place < length edges
      → (edge_at thinned.graph.edges.items place ≡ idle_edge (edge_at edges place))
      ⊎ ((missing kept < place) × Stays kept first place
      × (edge_at thinned.graph.edges.items place ≡ edge_at edges place))
  pub stays : (place : ℕ) → place < length edges → Stays kept first place
      → (place ≡ missing kept) ⊎ (edge_at thinned.graph.edges.items place ≡ edge_at edges place)

-- the edges that stay have no schedule together with those from the place on
abbrev pub HasNoneFrom : List Edge → List ℕ → ℕ → Type 0
HasNoneFrom edges kept place = HasNoSchedule (edges_at edges (kept ++ places_from place (length edges)))

-- the edges that stay have one together with those from the place on
abbrev pub HasSomeFrom : List Edge → List ℕ → ℕ → Type 0
HasSomeFrom edges kept place =
    (value : ℕ → ℤ) × IsSchedule (edges_at edges (kept ++ places_from place (length edges))) value

-- one of the places from the first on and before the end is the next that is needed
pub record IsNextPart (points : ℕ) (edges : List Edge) (kept : List ℕ) (part : Part) (thinned : Satisfied) : Type 0 where
  pub order : part.first < part.end
  pub within : part.end ≤ length edges
  pub thinned_first : IsThinned points edges kept part.first thinned
  pub none : HasNoneFrom edges kept part.first
  pub some : HasSomeFrom edges kept part.end

-- the places that are left when each is left out that isn't needed; their edges have a positive cycle
pub record AreNeeded (edges : List Edge) (kept : List ℕ) : Type 0 where
  pub within : All (λ place. place < length edges) kept
  pub leaves : LeavesNeeded edges kept
  pub cycle : HasPositiveCycle (edges_at edges kept)

-- the same places in the order of a positive cycle, from its least point on
pub record IsCycleOf (edges : List Edge) (kept ordered : List ℕ) : Type 0 where
  pub same : (place : ℕ) → Contains ordered place ↔ Contains kept place
  pub cycle : IsPositiveCycle edges ordered
  pub first : BeginsLeast (edges_at edges ordered)
