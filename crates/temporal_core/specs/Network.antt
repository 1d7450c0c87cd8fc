-- Points in time, and edges between them.
use Rattle.std.specs.Prelude.{ℕ, ◌<◌, ◌≤◌, pos, negsuc, ◌≤ℤ◌, List, length, All}
use Rattle.temporal_core.specs.declared.edges.Edge.{Edge}

-- how many points there are, and the edges in the order in which they were added
pub record TimeNetwork : Type 0 where
  pub points : ℕ
  pub edges : List Edge

-- the edge joins two points, and its gap is two million at most, forward or back
pub record IsEdge (points : ℕ) (edge : Edge) : Type 0 where
  pub from : edge.from < points
  pub to : edge.to < points
  pub low : negsuc 1999999 ≤ℤ edge.gap
  pub high : edge.gap ≤ℤ pos 2000000

-- there is a point, the origin, and 65,536 at most in all; the places of the edges are numbers of 32 bits
pub record IsNetwork (network : TimeNetwork) : Type 0 where
  pub some : 0 < network.points
  pub few : network.points ≤ 65536
  pub edges : All (IsEdge network.points) network.edges
  pub count : length network.edges < 4294967296
