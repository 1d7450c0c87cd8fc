use Rattle.std.proofs.Common.{take}
use Rattle.db_history.specs.Kept.{KeepsHistory}
use Rattle.conflict_core.specs.Turns.{GoesOnBy}
use Rattle.conflict_core.proofs.turns.take_admissible.Given as goal

abbrev pub invariant-loop-decision : goal.invariant-loop-decision
invariant-loop-decision l = record {
  on : GoesOnBy l.model l.initial.log (take l.decision-index l.decisions) l.log;
  keeps : KeepsHistory l.model l.log l.kept;
}
