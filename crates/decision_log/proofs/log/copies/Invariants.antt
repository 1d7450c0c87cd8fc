use Rattle.std.proofs.Common.{◌≡◌, take}
use Rattle.decision_log.proofs.log.copies.Given as goal

abbrev pub invariant-loop-decision : goal.invariant-loop-decision
invariant-loop-decision l = l.copied.items ≡ take l.decision-index l.decisions
