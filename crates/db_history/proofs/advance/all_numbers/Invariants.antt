use Rattle.std.specs.Prelude.{ℕ, ◌<◌, Contains}
use Rattle.db_history.proofs.advance.all_numbers.Given as goal

abbrev pub invariant-loop-number : goal.invariant-loop-number
invariant-loop-number l = (n : ℕ) → n < l.number → Contains l.due.items n
