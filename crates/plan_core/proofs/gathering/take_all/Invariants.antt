use Rattle.std.specs.Prelude.{IfOk}
use Rattle.plan_core.specs.Gathering.{said_of}
use Rattle.plan_core.proofs.Making.{IsTaken}
use Rattle.plan_core.proofs.gathering.take_all.Given as goal

abbrev pub invariant-loop-named : goal.invariant-loop-named
invariant-loop-named l = IfOk l.going_on (λ going_on. IsTaken (said_of l.yielded) going_on l.globals.items l.lines.items)
