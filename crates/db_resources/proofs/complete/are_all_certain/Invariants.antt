use Rattle.std.proofs.Common.{ℕ, ◌<◌}
use Rattle.db_resources.specs.Completeness.{AreCertainAt}
use Rattle.db_resources.proofs.complete.are_all_certain.Given as goal

abbrev pub invariant-loop-number : goal.invariant-loop-number
invariant-loop-number l = (n : ℕ) → n < l.number → AreCertainAt l.model l.store n
