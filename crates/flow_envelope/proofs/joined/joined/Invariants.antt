use Rattle.std.proofs.Common.{◌≡◌, ℕ, ◌<◌, length}
use Rattle.temporal_core.specs.Satisfied.{value_at}
use Rattle.flow_envelope.specs.Latest.{bound_at, joined_of}
use Rattle.flow_envelope.proofs.joined.joined.Given as goal

abbrev pub invariant-loop-point : goal.invariant-loop-point
invariant-loop-point l = record {
  count : length l.values.items ≡ l.point;
  each : (point : ℕ) → point < l.point → value_at l.values.items point ≡ joined_of (bound_at l.greatest point) (bound_at l.least point) l.lift;
}
