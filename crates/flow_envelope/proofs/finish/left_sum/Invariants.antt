use Rattle.std.proofs.Common.{◌≡◌, ◌*◌, pos, neg_ℤ, ◌≤ℤ◌}
use Rattle.flow_envelope.specs.Sums.{sum_below}
use Rattle.flow_envelope.specs.Finish.{left_at}
use Rattle.flow_envelope.proofs.finish.left_sum.Given as goal

abbrev pub invariant-loop-place : goal.invariant-loop-place
invariant-loop-place l = record {
  sum : l.sum ≡ sum_below (left_at l.certain l.more l.room) l.place;
  low : neg_ℤ (pos (1000000 * l.place)) ≤ℤ l.sum;
  high : l.sum ≤ℤ pos (1000000 * l.place);
}
