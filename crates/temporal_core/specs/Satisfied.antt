-- What the search for a schedule keeps, and what its steps leave.
use Rattle.std.specs.Prelude.{◌≡◌, ◌≢◌, ℕ, ◌<◌, ◌≤◌, ℤ, pos, ◌+ℤ◌}
use Rattle.std.specs.Prelude.{◌-ℤ◌, neg_ℤ, ◌≤ℤ◌, ◌<ℤ◌, ◌⊎◌, Bool, true, false}
use Rattle.std.specs.Prelude.{List}
use Rattle.std.specs.Prelude.{[], ◌∷◌, ◌++◌, length, All, Contains, Option, Some, None, slice_get, slice_index_or}
use Rattle.std.specs.Prelude.{slice_set}
use Rattle.temporal_core.specs.declared.edges.Edge.{Edge}
use Rattle.temporal_core.specs.declared.graph.Graph.{Graph}
use Rattle.temporal_core.specs.declared.satisfied.Satisfied.{Satisfied}
use Rattle.temporal_core.specs.Network.{IsEdge}
use Rattle.temporal_core.specs.Schedule.{KeepsEdge}
use Rattle.temporal_core.specs.Cycle.{LeadsFrom, gap_sum, LeadsBack, IsSimple}

-- the last of the places before the limit whose edge begins at the point, if there is one
abbrev pub IsLastFrom : List Edge → ℕ → ℕ → Option ℕ → Type 0
IsLastFrom edges point limit None =
    (place : ℕ) (edge : Edge) → place < limit → slice_get edges place ≡ Some edge → edge.from ≢ point
IsLastFrom edges point limit (Some last) =
    (last < limit)
    × ((edge : Edge) → slice_get edges last ≡ Some edge → edge.from ≡ point)
    × ((place : ℕ) (edge : Edge) → last < place → place < limit → slice_get edges place ≡ Some edge → edge.from ≢ point)

-- the graph has these edges among so many points, and its links lead from each point over all edges from it, the
-- last first
pub record IsGraph (points : ℕ) (edges : List Edge) (graph : Graph) : Type 0 where
  pub list : graph.edges.items ≡ edges
  pub each : All (IsEdge points) edges
  pub count : length graph.earlier.items ≡ length edges
  pub points_count : length graph.latest.items ≡ points
  pub latest : (point : ℕ) → point < points
      → IsLastFrom edges point (length edges) (slice_index_or graph.latest.items point None)
  pub earlier : (place : ℕ) (edge : Edge) → slice_get edges place ≡ Some edge
      → IsLastFrom edges edge.from place (slice_index_or graph.earlier.items place None)

-- two to the forty-first: values stay this near to 0
abbrev pub far : ℤ
far = pos 2199023255552

-- a number that is far from where 64 bits end
abbrev pub IsNear : ℤ → Type 0
IsNear number = (neg_ℤ far ≤ℤ number) × (number ≤ℤ far)

-- the value of the point with this number
abbrev pub value_at : List ℤ → ℕ → ℤ
value_at values point = slice_index_or values point (pos 0)

-- the sum of all values
abbrev pub value_sum : List ℤ → ℤ
value_sum [] = pos 0
value_sum (value ∷ values) = value +ℤ value_sum values

-- edges of the list that lead from one point to the other
pub record Walk (edges : List Edge) (from to : ℕ) : Type 0 where
  pub steps : List Edge
  pub leads : LeadsFrom from steps to
  pub within : (edge : Edge) → Contains steps edge → Contains edges edge

-- edges of the list are a simple cycle whose gaps sum to more than 0
pub record HasPositiveCycle (edges : List Edge) : Type 0 where
  pub cycle : List Edge
  pub within : (edge : Edge) → Contains cycle edge → Contains edges edge
  pub closed : LeadsBack cycle
  pub simple : IsSimple cycle
  pub positive : pos 0 <ℤ gap_sum cycle

-- the point has the raised value at least: it had it before, or was raised to it and put at the end of the queue;
-- or the point that may not be raised would have been
abbrev pub RaisesEnd : ℕ → ℤ → ℕ → List ℤ → List ℕ → Bool → List ℤ → List ℕ → Type 0
RaisesEnd point raised fixed old queue true new later =
    ((raised ≤ℤ value_at old point) × (new ≡ old) × (later ≡ queue))
    ⊎ ((value_at old point <ℤ raised) × (point ≢ fixed) × (new ≡ slice_set old point raised)
    × (later ≡ queue ++ point ∷ []))
RaisesEnd point raised fixed old queue false new later = (point ≡ fixed) × (value_at old point <ℤ raised)

-- an edge from one point to the other has raised the value there
pub record IsRaisedAlong (edges : List Edge) (point : ℕ) (old new : List ℤ) (end : ℕ) : Type 0 where
  pub edge : Edge
  pub contained : Contains edges edge
  pub from : edge.from ≡ point
  pub to : edge.to ≡ end
  pub raised : value_at new end ≡ value_at old point +ℤ edge.gap
  pub more : value_at old end <ℤ value_at new end

-- the edges from the point at the places that are told have their second points raised as far as they want, and
-- these now wait in
-- the queue
pub record RaisesFrom (edges : List Edge) (told : ℕ → Type 0) (point fixed : ℕ)
    (old : List ℤ) (queue : List ℕ) (new : List ℤ) (later : List ℕ) : Type 0 where
  pub each : (end : ℕ)
      → (value_at new end ≡ value_at old end) ⊎ (IsRaisedAlong edges point old new end × Contains later end)
  pub fixed_stays : value_at new fixed ≡ value_at old fixed
  pub keeps : (place : ℕ) (edge : Edge) → told place → slice_get edges place ≡ Some edge → edge.from ≡ point
      → (value_at old point +ℤ edge.gap) ≤ℤ value_at new edge.to
  pub pushed : List ℕ
  pub queued : later ≡ queue ++ pushed
  pub points : All (λ end. end < length old) pushed
  pub gain : (pos (length pushed) +ℤ value_sum old) ≤ℤ value_sum new

-- an edge from the point wants to raise the one that may not be raised
pub record IsStopped (edges : List Edge) (point fixed : ℕ) (old : List ℤ) : Type 0 where
  pub edge : Edge
  pub contained : Contains edges edge
  pub from : edge.from ≡ point
  pub to : edge.to ≡ fixed
  pub more : value_at old fixed <ℤ (value_at old point +ℤ edge.gap)

-- the values keep the edges again after the start was raised: a point has its old value, or that of a walk from the
-- start
pub record Raises (edges : List Edge) (start : ℕ) (value : ℤ) (fixed : ℕ) (old new : List ℤ) : Type 0 where
  pub keeps : All (KeepsEdge (value_at new)) edges
  pub started : value ≤ℤ value_at new start
  pub fixed_stays : value_at new fixed ≡ value_at old fixed
  pub each : (point : ℕ)
      → (value_at new point ≡ value_at old point)
      ⊎ ((walk : Walk edges start point) × (value_at new point ≡ value +ℤ gap_sum walk.steps))
  pub low : (point : ℕ) → value_at old point ≤ℤ value_at new point
  pub high : (point : ℕ) → value_at new point ≤ℤ (value_at old point +ℤ (value -ℤ value_at old start))

-- a walk from the start leads above the value of the one that may not be raised
abbrev pub Exceeds : List Edge → ℕ → ℤ → ℕ → List ℤ → Type 0
Exceeds edges start value fixed old =
    (walk : Walk edges start fixed) × (value_at old fixed <ℤ (value +ℤ gap_sum walk.steps))

-- two to the fiftieth
abbrev pub modest : ℤ
modest = pos 1125899906842624

-- values to which a gap can be added
abbrev pub AreModest : List ℤ → Type 0
AreModest values =
    (point : ℕ) → (neg_ℤ modest ≤ℤ value_at values point) × (value_at values point ≤ℤ modest)

-- the values keep the edges; each is 0 or more, and the sum of the gaps along some walk to its point
pub record AreSatisfied (points : ℕ) (edges : List Edge) (values : List ℤ) : Type 0 where
  pub count : length values ≡ points
  pub keeps : All (KeepsEdge (value_at values)) edges
  pub low : (point : ℕ) → pos 0 ≤ℤ value_at values point
  pub walked : (point : ℕ) → point < points
      → (first : ℕ) × (walk : Walk edges first point) × (value_at values point ≡ gap_sum walk.steps)

-- the edges among so many points, linked in a graph, with values that keep them
pub record IsSatisfiedGraph (points : ℕ) (edges : List Edge) (satisfied : Satisfied) : Type 0 where
  pub few : points ≤ 65536
  pub graph : IsGraph points edges satisfied.graph
  pub values : AreSatisfied points edges satisfied.values.items

-- no more than this is the sum of the gaps along a walk that comes to no point twice
abbrev pub highest : ℤ
highest = pos 131072000000

-- values to which raising one of them can be tried: they keep the edges, and none is far up
pub record AreKept (points : ℕ) (edges : List Edge) (values : List ℤ) : Type 0 where
  pub few : points ≤ 65536
  pub count : length values ≡ points
  pub keeps : All (KeepsEdge (value_at values)) edges
  pub low : (point : ℕ) → pos 0 ≤ℤ value_at values point
  pub high : (point : ℕ) → value_at values point ≤ℤ highest
