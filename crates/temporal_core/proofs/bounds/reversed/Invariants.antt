use Rattle.std.proofs.Common.{◌≡◌, take, map}
use Rattle.temporal_core.specs.Bounds.{reversed_edge}
use Rattle.temporal_core.proofs.bounds.reversed.Given as goal

abbrev pub invariant-loop-edge : goal.invariant-loop-edge
invariant-loop-edge l = l.turned.items ≡ map reversed_edge (take l.edge-index l.edges)
