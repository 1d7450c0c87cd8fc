use Rattle.std.proofs.Common.{take}
use Rattle.temporal_core.specs.Satisfied.{IsSatisfiedGraph}
use Rattle.temporal_core.proofs.satisfied.satisfy.Given as goal

abbrev pub invariant-loop-edge : goal.invariant-loop-edge
invariant-loop-edge l = IsSatisfiedGraph l.points (take l.edge-index l.edges) l.satisfied
