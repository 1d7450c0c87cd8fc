use Rattle.std.proofs.Common.{take}
use Rattle.session_replies.specs.Lines.{IsDecisionLine}
use Rattle.session_replies.specs.Written.{WritesLines}
use Rattle.session_replies.proofs.decisions.put_decisions.Given as goal

abbrev pub invariant-loop-decision : goal.invariant-loop-decision
invariant-loop-decision l = WritesLines (IsDecisionLine l.initial.model) (take l.decision-index l.initial.decisions) l.initial.out.items l.out.items
