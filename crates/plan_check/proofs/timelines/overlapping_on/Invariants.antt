use Rattle.std.proofs.Common.{ℕ, ◌<◌, ◌-◌, length}
use Rattle.plan_check.specs.ByObject.{IsLineOn}
use Rattle.plan_check.specs.Turns.{IsPairKept}
use Rattle.plan_check.proofs.Linking.{dealt, IsOnTheWay}
use Rattle.plan_check.proofs.timelines.overlapping_on.Given as goal

abbrev pub invariant-loop-next : goal.invariant-loop-next
invariant-loop-next l = record {
  on_the_way : (object : ℕ) → object < length l.model.objects → IsLineOn l.plan.lines object l.first → IsOnTheWay l.plan.lines object l.next;
  past : l.first < dealt (length l.plan.lines) l.next;
  kept : (second : ℕ) → second < dealt (length l.plan.lines) l.next → IsPairKept l.model l.plan l.first second;
}

-- how many lines are left
abbrev pub decreases-loop-next : goal.decreases-loop-next
decreases-loop-next l = length l.plan.lines - dealt (length l.plan.lines) l.next
