use Rattle.db_opening.proofs.Parting.{ArePartsBelow}
use Rattle.db_opening.proofs.parts.parts_of.Given as goal

abbrev pub invariant-loop-number : goal.invariant-loop-number
invariant-loop-number l = ArePartsBelow l.number l.parts.items
