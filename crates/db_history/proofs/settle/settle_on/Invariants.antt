use Rattle.std.proofs.Common.{take}
use Rattle.plan_defs.specs.Settling.{IsSettled}
use Rattle.db_history.specs.Standing.{KeepsList}
use Rattle.db_history.specs.Settled.{GoesOver}
use Rattle.db_history.proofs.settle.settle_on.Given as goal

abbrev pub invariant-loop-decision : goal.invariant-loop-decision
invariant-loop-decision l = record {
  over : GoesOver l.model (take l.decision-index l.decisions) l.initial.settled.decisions.items l.initial.settled.flags.items
      l.settled.decisions.items l.settled.flags.items;
  settled : IsSettled l.model l.settled.decisions.items;
  keeps : KeepsList l.model l.settled.decisions.items l.kept;
}
