use Rattle.std.proofs.Common.{◌-◌, ◌<◌, ◌≤◌, length}
use Rattle.temporal_core.specs.Canonical.{IsThinned, HasNoneFrom, HasSomeFrom}
use Rattle.temporal_core.proofs.thinned.needed_in.Given as goal

abbrev pub invariant-loop-end : goal.invariant-loop-end
invariant-loop-end l = record {
  after : l.fn.part.first ≤ l.first;
  order : l.first < l.end;
  within : l.end ≤ length l.edges;
  thinned_first : IsThinned (length l.fn.thinned.values.items) l.edges l.kept l.first l.thinned;
  none : HasNoneFrom l.edges l.kept l.first;
  some : HasSomeFrom l.edges l.kept l.end;
}

abbrev pub decreases-loop-end : goal.decreases-loop-end
decreases-loop-end l = l.end - l.first
