use Rattle.std.proofs.Common.{◌≡◌, ◌+◌, ◌≤◌, vec_len, vec_capacity}
use Rattle.decision_log.specs.Kept.{put_back, HavePlaces}
use Rattle.decision_log.proofs.steps.put_all_back.Given as goal

abbrev pub invariant-loop-place : goal.invariant-loop-place
invariant-loop-place l = record {
  back : put_back l.taken.items l.decisions.items ≡ put_back l.initial.taken.items l.initial.decisions.items;
  places : HavePlaces l.taken.items l.decisions.items;
  room : vec_len l.decisions + vec_len l.taken ≤ vec_capacity l.decisions;
  capacity : vec_capacity l.decisions ≡ vec_capacity l.initial.decisions;
}

abbrev pub decreases-loop-place : goal.decreases-loop-place
decreases-loop-place l = vec_len l.taken
