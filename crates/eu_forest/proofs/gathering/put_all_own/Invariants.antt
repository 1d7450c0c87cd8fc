use Rattle.std.proofs.Common.{ℕ, List, Option}
use Rattle.eu_forest.specs.Members.{AreGathered}
use Rattle.eu_forest.proofs.gathering.put_all_own.Given as goal

-- the owners so far have theirs
abbrev pub invariant-loop-number : goal.invariant-loop-number
invariant-loop-number l =
    (parents : List (Option ℕ)) → AreGathered parents l.owners 0 l.initial.members → AreGathered parents l.owners l.number l.members
