use Rattle.std.proofs.Common.{ℕ, ◌<◌, pos, ◌≤ℤ◌, MatchOption}
use Rattle.std.specs.Prelude.{⊤}
use Rattle.flow_envelope.specs.Latest.{bound_at}
use Rattle.flow_envelope.proofs.joined.top_of.Given as goal

abbrev pub invariant-loop-value : goal.invariant-loop-value
invariant-loop-value l = record {
  low : pos 0 ≤ℤ l.most;
  high : l.most ≤ℤ pos 131072000000;
  each : (point : ℕ) → point < l.value-index → MatchOption (bound_at l.bounds point) ⊤ (λ value. value ≤ℤ l.most);
}
