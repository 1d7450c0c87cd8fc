use Rattle.std.proofs.Common.{◌≡◌, take}
use Rattle.conflict_core.proofs.conflict.copied.Given as goal

abbrev pub invariant-loop-decision : goal.invariant-loop-decision
invariant-loop-decision l = l.copies.items ≡ take l.decision-index l.decisions
