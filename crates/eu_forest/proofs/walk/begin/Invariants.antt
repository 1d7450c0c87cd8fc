use Rattle.std.proofs.Common.{take}
use Rattle.eu_forest.specs.Walks.{AreBegun}
use Rattle.eu_forest.proofs.walk.begin.Given as goal

abbrev pub invariant-loop-number : goal.invariant-loop-number
invariant-loop-number l = AreBegun (take l.number l.parents) l.marks.items l.order.items
