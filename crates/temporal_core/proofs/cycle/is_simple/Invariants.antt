use Rattle.std.proofs.Common.{◌↔◌, drop}
use Rattle.temporal_core.specs.Cycle.{edges_at, IsSimple}
use Rattle.temporal_core.proofs.cycle.is_simple.Given as goal

abbrev pub invariant-loop-k : goal.invariant-loop-k
invariant-loop-k l = IsSimple (edges_at l.edges (drop l.k l.places)) ↔ IsSimple (edges_at l.edges l.places)
