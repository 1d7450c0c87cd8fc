use Rattle.std.specs.Prelude.{ℕ, ◌≤◌, ◌<◌, Contains}
use Rattle.db_store.proofs.store.put_numbers.Given as goal

abbrev pub invariant-loop-number : goal.invariant-loop-number
invariant-loop-number l = record {
  kept : (number : ℕ) → Contains l.fn.numbers.items number → Contains l.numbers.items number;
  all : (number : ℕ) → l.from ≤ number → number < l.number → Contains l.numbers.items number;
}
