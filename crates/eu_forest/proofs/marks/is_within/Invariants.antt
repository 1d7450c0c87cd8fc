use Rattle.std.proofs.Common.{◌≡◌, ◌<◌, ℕ, true}
use Rattle.eu_forest.specs.Members.{is_marked}
use Rattle.eu_forest.proofs.marks.is_within.Given as goal

-- those so far are in the other
abbrev pub invariant-loop-number : goal.invariant-loop-number
invariant-loop-number l = (place : ℕ) → place < l.number → is_marked l.one place ≡ true → is_marked l.other place ≡ true
