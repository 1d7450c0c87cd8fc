use Rattle.std.proofs.Common.{take}
use Rattle.session_replies.specs.Written.{WritesArguments}
use Rattle.session_replies.proofs.decisions.put_arguments.Given as goal

abbrev pub invariant-loop-place : goal.invariant-loop-place
invariant-loop-place l = WritesArguments l.model l.kind l.among (take l.place l.initial.arguments) l.initial.out.items l.out.items
