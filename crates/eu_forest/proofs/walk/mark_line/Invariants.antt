use Rattle.std.proofs.Common.{take}
use Rattle.eu_forest.specs.declared.walk.Mark.TheVariants as mark
use Rattle.eu_forest.specs.Walks.{MarksAll}
use Rattle.eu_forest.proofs.walk.mark_line.Given as goal

abbrev pub invariant-loop-number : goal.invariant-loop-number
invariant-loop-number l = MarksAll (take l.number-index l.path) (mark.Known l.below) l.initial.marks l.marks
