use Rattle.std.specs.Prelude.{◌≢◌, length, take, AllPairs}
use Rattle.model_rules.specs.Numbered.{AreMarked}
use Rattle.model_rules.proofs.numbers.are_new.Given as goal

-- the numbers so far are marked, and differ
abbrev pub invariant-loop-number : goal.invariant-loop-number
invariant-loop-number l = record {
  marked : AreMarked (length l.initial.marks) (take l.number-index l.numbers) l.marks;
  distinct : AllPairs ◌≢◌ (take l.number-index l.numbers);
}
