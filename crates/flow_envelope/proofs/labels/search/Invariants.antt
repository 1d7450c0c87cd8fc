use Rattle.std.proofs.Common.{◌≡◌, ℕ, ◌+◌, ◌<◌, ◌≤◌, pos, ◌<ℤ◌, length}
use Rattle.temporal_core.specs.Satisfied.{value_at}
use Rattle.flow_envelope.specs.Labels.{label_at, unlabelled, AreLabels}
use Rattle.flow_envelope.proofs.labels.search.Given as goal

abbrev pub invariant-sweeps : goal.invariant-sweeps
invariant-sweeps l = record {
  adders : length l.labels.adders.items ≡ length l.flow.more.items;
  takers : length l.labels.takers.items ≡ length l.flow.more.items;
  labels : AreLabels l.flow.pairs.items l.flow.room.items l.labels.adders.items l.labels.takers.items l.labels.next;
  seeds : (place : ℕ) → pos 0 <ℤ value_at l.flow.room.items place → 0 < (label_at l.labels.takers.items place).rank;
  few : l.labels.next + (unlabelled l.labels.adders.items + unlabelled l.labels.takers.items) ≤ 4096;
}

abbrev pub decreases-sweeps : goal.decreases-sweeps
decreases-sweeps l = unlabelled l.labels.adders.items + unlabelled l.labels.takers.items
