use Rattle.std.proofs.Common.{◌≡◌, ◌<◌, ℕ}
use Rattle.std.specs.Prelude.{Some}
use Rattle.eu_forest.specs.Ancestors.{parent_in}
use Rattle.eu_forest.specs.Members.{IsWithin, marks_at}
use Rattle.eu_forest.proofs.gathering.are_handed_up.Given as goal

-- the things so far have handed up theirs
abbrev pub invariant-loop-thing : goal.invariant-loop-thing
invariant-loop-thing l =
    (thing parent : ℕ) → thing < l.thing → parent_in l.parents thing ≡ Some parent → IsWithin (marks_at l.members thing) (marks_at l.members parent)
