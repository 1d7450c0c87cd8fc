use Rattle.std.proofs.Common.{take}
use Rattle.eu_forest.specs.declared.lineage.Rootedness.TheVariants as how
use Rattle.eu_forest.specs.declared.walk.Mark.TheVariants as mark
use Rattle.eu_forest.specs.Walks.{MarksAll}
use Rattle.eu_forest.proofs.walk.mark_circle.Given as goal

abbrev pub invariant-loop-number : goal.invariant-loop-number
invariant-loop-number l = MarksAll (take l.number-index l.circle) (mark.Known how.OnCircle) l.initial.marks l.marks
