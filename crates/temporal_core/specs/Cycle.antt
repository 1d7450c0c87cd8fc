-- Cycles of edges, and the one that is told where there is no schedule.
use Rattle.std.specs.Prelude.{◌≡◌, ◌≢◌, ℕ, ◌<◌, ◌≤◌, ℤ, pos, ◌+ℤ◌}
use Rattle.std.specs.Prelude.{◌<ℤ◌, ◌⊎◌, ◌↔◌, List, [], ◌∷◌, ◌++◌, length, All}
use Rattle.std.specs.Prelude.{Contains, slice_get, option_to_list}
use Rattle.std.specs.List.{range_with_len}
use Rattle.temporal_core.specs.declared.edges.Edge.{Edge}
use Rattle.temporal_core.specs.Schedule.{HasNoSchedule}

-- the edges at these places of the list, in the order of the places
abbrev pub edges_at : List Edge → List ℕ → List Edge
edges_at edges [] = []
edges_at edges (place ∷ places) = option_to_list (slice_get edges place) ++ edges_at edges places

-- the sum of the gaps of the edges
abbrev pub gap_sum : List Edge → ℤ
gap_sum [] = pos 0
gap_sum (edge ∷ edges) = edge.gap +ℤ gap_sum edges

-- the edges lead from one point to the other, each from where the one before it ends
abbrev pub LeadsFrom : ℕ → List Edge → ℕ → Type 0
LeadsFrom from [] to = from ≡ to
LeadsFrom from (edge ∷ edges) to = (edge.from ≡ from) × LeadsFrom edge.to edges to

-- there is an edge, and they lead back to where the first begins
abbrev pub LeadsBack : List Edge → Type 0
LeadsBack [] = ⊥
LeadsBack (edge ∷ edges) = LeadsFrom edge.to edges edge.from

-- no two of the edges begin at one point
abbrev pub IsSimple : List Edge → Type 0
IsSimple [] = Unit {0}
IsSimple (edge ∷ edges) = All (λ other. other.from ≢ edge.from) edges × IsSimple edges

-- the edges at these places, in this order, are a simple cycle whose gaps sum to more than 0: no schedule can keep
-- them all
pub record IsPositiveCycle (edges : List Edge) (places : List ℕ) : Type 0 where
  pub within : All (λ place. place < length edges) places
  pub closed : LeadsBack (edges_at edges places)
  pub simple : IsSimple (edges_at edges places)
  pub positive : pos 0 <ℤ gap_sum (edges_at edges places)

-- what is left when, after the places that are kept, each further one in order is left out if the edges at the
-- others have no schedule
abbrev pub LeavesAfter : List Edge → List ℕ → List ℕ → List ℕ → Type 0
LeavesAfter edges kept [] left = left ≡ kept
LeavesAfter edges kept (place ∷ rest) left =
    (HasNoSchedule (edges_at edges (kept ++ rest)) × LeavesAfter edges kept rest left)
    ⊎ ((¬ HasNoSchedule (edges_at edges (kept ++ rest))) × LeavesAfter edges (kept ++ place ∷ []) rest left)

-- what is left of all places when, from first to last, each is left out if the edges at the others have no schedule
abbrev pub LeavesNeeded : List Edge → List ℕ → Type 0
LeavesNeeded edges left = LeavesAfter edges [] (range_with_len 0 (length edges)) left

-- the first of the edges begins at no later point than any other
abbrev pub BeginsLeast : List Edge → Type 0
BeginsLeast [] = ⊥
BeginsLeast (edge ∷ edges) = All (λ other. edge.from ≤ other.from) edges

-- the places that are left, in the order of a positive cycle from its least point on
pub record IsCanonicalCycle (edges : List Edge) (places : List ℕ) : Type 0 where
  pub left : List ℕ
  pub leaves : LeavesNeeded edges left
  pub same : (place : ℕ) → Contains places place ↔ Contains left place
  pub cycle : IsPositiveCycle edges places
  pub first : BeginsLeast (edges_at edges places)
