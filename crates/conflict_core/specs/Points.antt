-- Points in order, and their numbers: their places.
use Rattle.std.specs.Prelude.{◌≡◌, ℕ, ◌≤◌, List, Some, length, take, drop, slice_get, Contains, AllPairs}
use Rattle.db_edges.specs.declared.edge.NamedEdge.{NamedEdge}
use Rattle.db_edges.specs.declared.edge.Point.{Point}
use Rattle.db_edges.specs.declared.edge.Point.TheVariants.{Origin}
use Rattle.temporal_core.specs.declared.edges.Edge.{Edge}
use Rattle.db_edges.specs.TimeCycle.{IsPointBefore}

-- each stands once, in order, and the origin is among them
pub record ArePoints (points : List Point) : Type 0 where
  pub order : AllPairs IsPointBefore points
  pub origin : Contains points Origin

-- so many of the points come before this one
pub record IsPlaceOf (points : List Point) (point : Point) (place : ℕ) : Type 0 where
  pub within : place ≤ length points
  pub lower : (other : Point) → Contains (take place points) other → IsPointBefore other point
  pub upper : (other : Point) → Contains (drop place points) other → IsPointBefore other point → ⊥

-- the two points of each edge are among them
abbrev pub HavePoints : List Point → List NamedEdge → Type 0
HavePoints points edges = (edge : NamedEdge) → Contains edges edge → Contains points edge.from × Contains points edge.to

-- the same edge between the numbers of its points
pub record NumbersEdge (points : List Point) (edge : NamedEdge) (numbered : Edge) : Type 0 where
  pub from : slice_get points numbered.from ≡ Some edge.from
  pub to : slice_get points numbered.to ≡ Some edge.to
  pub gap : numbered.gap ≡ edge.gap

-- all old points are among the new ones, and so is this one
pub record AddsPoint (old : List Point) (point : Point) (new : List Point) : Type 0 where
  pub are : ArePoints new
  pub old_stay : (other : Point) → Contains old other → Contains new other
  pub there : Contains new point
