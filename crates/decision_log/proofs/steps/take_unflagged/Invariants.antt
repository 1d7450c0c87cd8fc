use Rattle.std.proofs.Common.{◌≡◌, ◌≤◌, count_by, not, vec_capacity}
use Rattle.decision_log.proofs.Taking.{IsTaking}
use Rattle.decision_log.proofs.steps.take_unflagged.Given as goal

abbrev pub invariant-loop-place : goal.invariant-loop-place
invariant-loop-place l = record {
  taking : IsTaking l.keep l.initial.decisions.items l.place l.decisions.items l.taken.items;
  room : count_by not l.keep ≤ vec_capacity l.taken;
  capacity : vec_capacity l.decisions ≡ vec_capacity l.initial.decisions;
}

abbrev pub decreases-loop-place : goal.decreases-loop-place
decreases-loop-place l = l.place
