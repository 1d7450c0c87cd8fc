use Rattle.std.proofs.Common.{length}
use Rattle.model_core.specs.History.{standing}
use Rattle.db_history.specs.Kept.{KeepsHistory}
use Rattle.conflict_core.proofs.Turning.{ReducesBy}
use Rattle.conflict_core.proofs.conflict.reduce.Given as goal

abbrev pub invariant-loop-decision : goal.invariant-loop-decision
invariant-loop-decision l = record {
  by : ReducesBy l.model l.decisions (standing l.log) l.rest;
  keeps : KeepsHistory l.model l.log l.kept;
}

abbrev pub decreases-loop-decision : goal.decreases-loop-decision
decreases-loop-decision l = length l.rest
