use Rattle.std.proofs.Common.{sum_by}
use Rattle.eu_forest.specs.Walks.{HasClimbed}
use Rattle.eu_forest.proofs.Unseen.{unseen_weight}
use Rattle.eu_forest.proofs.walk.climb.Given as goal

abbrev pub invariant-loop-marks : goal.invariant-loop-marks
invariant-loop-marks l = HasClimbed l.parents l.number l.initial.marks l.marks l.path.items l.next

abbrev pub decreases-loop-marks : goal.decreases-loop-marks
decreases-loop-marks l = sum_by unseen_weight l.marks
