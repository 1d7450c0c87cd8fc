use Rattle.std.proofs.Common.{◌-◌, ◌≤◌, length, take, drop}
use Rattle.std.specs.Prelude.{Contains}
use Rattle.db_edges.specs.declared.edge.Point.{Point}
use Rattle.db_edges.specs.TimeCycle.{IsPointBefore}
use Rattle.conflict_core.proofs.points.place_of.Given as goal

-- before the low place all come before the point, and from the high one on none does
abbrev pub invariant-loop-low : goal.invariant-loop-low
invariant-loop-low l = record {
  apart : l.low ≤ l.high;
  within : l.high ≤ length l.points;
  lower : (other : Point) → Contains (take l.low l.points) other → IsPointBefore other l.point;
  upper : (other : Point) → Contains (drop l.high l.points) other → IsPointBefore other l.point → ⊥;
}

abbrev pub decreases-loop-low : goal.decreases-loop-low
decreases-loop-low l = l.high - l.low
