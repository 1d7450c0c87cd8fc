use Rattle.std.proofs.Common.{◌≡◌, take}
use Rattle.db_history.specs.Settled.{AllStay}
use Rattle.db_history.proofs.settle.keep_all.Given as goal

abbrev pub invariant-loop-decision : goal.invariant-loop-decision
invariant-loop-decision l = record {
  kept : l.settled.decisions.items ≡ take l.decision-index l.decisions;
  stay : AllStay (take l.decision-index l.decisions) l.settled.flags.items;
}
