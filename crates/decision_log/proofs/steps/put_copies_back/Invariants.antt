use Rattle.std.proofs.Common.{◌≡◌, length}
use Rattle.decision_log.specs.Kept.{put_back, HavePlaces}
use Rattle.decision_log.proofs.steps.put_copies_back.Given as goal

abbrev pub invariant-loop-last : goal.invariant-loop-last
invariant-loop-last l = record {
  back : put_back l.rest l.decisions.items ≡ put_back l.initial.rest l.initial.decisions.items;
  places : HavePlaces l.rest l.decisions.items;
}

abbrev pub decreases-loop-last : goal.decreases-loop-last
decreases-loop-last l = length l.rest
