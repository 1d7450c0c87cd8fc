use Rattle.eu_forest.proofs.Known.{AreKnownBelow}
use Rattle.eu_forest.proofs.lineage.Lineage.of.Given as goal

abbrev pub invariant-loop-number : goal.invariant-loop-number
invariant-loop-number l = AreKnownBelow l.parents l.marks.items l.order.items l.number
