use Rattle.db_posting.proofs.Filling.{AreFilled}
use Rattle.db_posting.proofs.tables.field_pairs.Given as goal

abbrev pub invariant-loop-place : goal.invariant-loop-place
invariant-loop-place l = AreFilled l.model l.number l.place l.pairs.items
