use Rattle.std.proofs.Common.{◌++◌, [], length}
use Rattle.temporal_core.specs.Cycle.{edges_at}
use Rattle.temporal_core.specs.Canonical.{places_from}
use Rattle.temporal_core.proofs.Needed.{IsSatisfiedWith}
use Rattle.temporal_core.proofs.canonical.first_needed.Given as goal

abbrev pub invariant-loop-place : goal.invariant-loop-place
invariant-loop-place l = IsSatisfiedWith l.points (edges_at l.edges ([] ++ places_from l.place (length l.edges))) l.satisfied
