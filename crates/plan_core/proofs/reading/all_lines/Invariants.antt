use Rattle.std.proofs.Common.{length}
use Rattle.plan_core.proofs.Wholes.{LinesRead}
use Rattle.plan_core.proofs.reading.all_lines.Given as goal

abbrev pub invariant-lines : goal.invariant-lines
invariant-lines l = LinesRead l.initial.model l.initial.cursor.rest.now l.cursor.rest.now l.known.keys l.said.items

abbrev pub decreases-lines : goal.decreases-lines
decreases-lines l = length l.cursor.rest.now
