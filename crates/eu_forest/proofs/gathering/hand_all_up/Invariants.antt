use Rattle.std.proofs.Common.{◌≤◌, ℕ, List, Option, length}
use Rattle.eu_forest.specs.Members.{AreGathered}
use Rattle.eu_forest.proofs.gathering.hand_all_up.Given as goal

-- what was gathered still is
abbrev pub invariant-loop-place : goal.invariant-loop-place
invariant-loop-place l = record {
  within : l.place ≤ length l.order;
  gathered : (owners : List (Option ℕ)) (count : ℕ) → AreGathered l.parents owners count l.initial.members → AreGathered l.parents owners count l.members;
}

abbrev pub decreases-loop-place : goal.decreases-loop-place
decreases-loop-place l = l.place
