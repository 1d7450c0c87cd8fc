use Rattle.std.proofs.Common.{◌≡◌, ◌++◌, drop, map, pos}
use Rattle.eu_forest.specs.Members.{numbers_marked}
use Rattle.eu_forest.proofs.members.all_numbers.Given as goal

-- those so far and those that are left are all
abbrev pub invariant-loop-some : goal.invariant-loop-some
invariant-loop-some l =
    l.lists.items ++ map (λ some. map pos (numbers_marked 0 some)) (drop l.some-index l.marks) ≡ map (λ some. map pos (numbers_marked 0 some)) l.marks
