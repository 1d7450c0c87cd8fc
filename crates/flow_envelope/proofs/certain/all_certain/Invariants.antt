use Rattle.std.proofs.Common.{◌≡◌, ℕ, ◌<◌, List, length}
use Rattle.temporal_core.specs.declared.edges.Edge.{Edge}
use Rattle.temporal_core.specs.Schedule.{AreLeastValues, AreGreatestValues}
use Rattle.flow_envelope.specs.Sums.{change_at}
use Rattle.flow_envelope.specs.Certain.{IsCertainty, certain_at}
use Rattle.flow_envelope.proofs.certain.all_certain.Given as goal

abbrev pub invariant-loop-change : goal.invariant-loop-change
invariant-loop-change l = record {
  count : length l.certain.items ≡ l.change-index;
  each : (edges : List Edge) → AreLeastValues (length l.least) edges l.least → AreGreatestValues (length l.least) edges l.greatest
      → (place : ℕ) → place < l.change-index → IsCertainty edges l.fn.at (change_at l.changes place).point (certain_at l.certain.items place);
}
