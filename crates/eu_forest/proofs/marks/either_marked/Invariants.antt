use Rattle.std.proofs.Common.{◌≡◌, ◌++◌, drop}
use Rattle.eu_forest.specs.Members.{are_marked, marked_from}
use Rattle.eu_forest.proofs.marks.either_marked.Given as goal

-- those so far and those that are left are all
abbrev pub invariant-loop-number : goal.invariant-loop-number
invariant-loop-number l = l.marks ++ marked_from l.number (drop l.number l.one) l.other ≡ are_marked l.one l.other
