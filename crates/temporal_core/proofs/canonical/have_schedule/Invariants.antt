use Rattle.std.proofs.Common.{take}
use Rattle.temporal_core.specs.Cycle.{edges_at}
use Rattle.temporal_core.specs.Satisfied.{IsSatisfiedGraph}
use Rattle.temporal_core.proofs.canonical.have_schedule.Given as goal

abbrev pub invariant-loop-place : goal.invariant-loop-place
invariant-loop-place l = IsSatisfiedGraph l.points (edges_at l.edges (take l.place-index l.kept)) l.satisfied
