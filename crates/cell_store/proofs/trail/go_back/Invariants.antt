use Rattle.std.proofs.Common.{◌≤◌, reverse, length}
use Rattle.cell_store.proofs.Returning.{IsReturning}
use Rattle.cell_store.proofs.trail.go_back.Given as goal

abbrev pub invariant-loop-cells : goal.invariant-loop-cells
invariant-loop-cells l = record {
  returning : IsReturning l.initial.cells.items (reverse l.initial.trail) l.cells.items (reverse l.trail);
  long : l.behind ≤ length l.trail;
}

abbrev pub decreases-loop-cells : goal.decreases-loop-cells
decreases-loop-cells l = length l.trail
