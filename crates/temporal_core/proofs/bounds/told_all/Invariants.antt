use Rattle.std.proofs.Common.{◌≡◌, ℕ, ◌<◌, length, get_or, None}
use Rattle.temporal_core.specs.Satisfied.{value_at}
use Rattle.temporal_core.specs.Bounds.{TellsPoint}
use Rattle.temporal_core.proofs.bounds.told_all.Given as goal

abbrev pub invariant-loop-point : goal.invariant-loop-point
invariant-loop-point l = record {
  count : length l.all.items ≡ l.point;
  each : (point : ℕ) → point < l.point → TellsPoint (value_at l.values point) (value_at l.satisfied point) l.origin (get_or l.all.items point None);
}
