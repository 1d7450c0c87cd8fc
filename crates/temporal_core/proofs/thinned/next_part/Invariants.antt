use Rattle.std.proofs.Common.{◌-◌, ◌<◌, ◌≤◌, length}
use Rattle.temporal_core.specs.Canonical.{IsThinned, HasNoneFrom}
use Rattle.temporal_core.proofs.thinned.next_part.Given as goal

abbrev pub invariant-loop-first : goal.invariant-loop-first
invariant-loop-first l = record {
  after : l.from ≤ l.first;
  within : l.first ≤ length l.edges;
  width : 0 < l.width;
  wider : 0 < l.wider;
  thinned_first : IsThinned (length l.fn.thinned.values.items) l.edges l.kept l.first l.thinned;
  none : HasNoneFrom l.edges l.kept l.first;
}

abbrev pub decreases-loop-first : goal.decreases-loop-first
decreases-loop-first l = length l.edges - l.first
