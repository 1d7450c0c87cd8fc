use Rattle.std.proofs.Common.{◌≡◌, ◌*◌, ◌≤ℤ◌, pos, ◌+ℤ◌, neg_ℤ, drop}
use Rattle.temporal_core.specs.Cycle.{edges_at, gap_sum}
use Rattle.temporal_core.proofs.cycle.gaps.Given as goal

abbrev pub invariant-loop-place : goal.invariant-loop-place
invariant-loop-place l = record {
  rest : l.sum +ℤ gap_sum (edges_at l.edges (drop l.place-index l.places)) ≡ gap_sum (edges_at l.edges l.places);
  low : neg_ℤ (pos (2147483648 * l.place-index)) ≤ℤ l.sum;
  high : l.sum ≤ℤ pos (2147483648 * l.place-index);
}
