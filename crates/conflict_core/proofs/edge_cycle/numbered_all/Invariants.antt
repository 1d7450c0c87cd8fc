use Rattle.std.proofs.Common.{◌≡◌, length, take}
use Rattle.std.specs.List.{AllZip}
use Rattle.conflict_core.specs.Points.{NumbersEdge}
use Rattle.conflict_core.proofs.edge_cycle.numbered_all.Given as goal

abbrev pub invariant-loop-edge : goal.invariant-loop-edge
invariant-loop-edge l = record {
  points : l.network.points ≡ length l.points;
  edges : AllZip (NumbersEdge l.points) (take l.edge-index l.edges) l.network.edges;
}
