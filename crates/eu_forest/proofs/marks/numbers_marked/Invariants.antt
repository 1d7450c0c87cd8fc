use Rattle.std.proofs.Common.{◌≡◌, ◌++◌, drop, map, pos}
use Rattle.eu_forest.specs.Members.{numbers_marked}
use Rattle.eu_forest.proofs.marks.numbers_marked.Given as goal

-- those so far and those that are left are all
abbrev pub invariant-loop-number : goal.invariant-loop-number
invariant-loop-number l = l.numbers ++ map pos (numbers_marked l.number (drop l.number l.marks)) ≡ map pos (numbers_marked 0 l.marks)
