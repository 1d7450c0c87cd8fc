use Rattle.std.proofs.Common.{take}
use Rattle.conflict_core.specs.Points.{ArePoints, HavePoints}
use Rattle.conflict_core.proofs.points.gather.Given as goal

abbrev pub invariant-loop-edge : goal.invariant-loop-edge
invariant-loop-edge l = record {
  are : ArePoints l.points.items;
  have : HavePoints l.points.items (take l.edge-index l.edges);
}
