use Rattle.std.proofs.Common.{◌≡◌, ℕ, ◌<◌, length}
use Rattle.temporal_core.specs.Satisfied.{value_at}
use Rattle.flow_envelope.specs.Labels.{label_at, IsSeed}
use Rattle.flow_envelope.proofs.labels.restart.Given as goal

abbrev pub invariant-loop-place : goal.invariant-loop-place
invariant-loop-place l = record {
  adders_count : length l.labels.adders.items ≡ length l.room;
  takers_count : length l.labels.takers.items ≡ length l.room;
  adders : (k : ℕ) → k < l.place → (label_at l.labels.adders.items k).rank ≡ 0;
  takers : (k : ℕ) → k < l.place → IsSeed (value_at l.room k) (label_at l.labels.takers.items k);
}
