use Rattle.std.proofs.Common.{◌-◌, pos, length}
use Rattle.plan_check.specs.Acts.{IsChangeOf}
use Rattle.plan_check.proofs.Linking.{dealt}
use Rattle.plan_check.proofs.Using.{Gathered}
use Rattle.plan_check.proofs.levels.changes_of.Given as goal

abbrev pub invariant-loop-next : goal.invariant-loop-next
invariant-loop-next l = Gathered (IsChangeOf l.model (pos l.object)) l.plan.lines l.object l.next l.changes.items

-- how many lines are left
abbrev pub decreases-loop-next : goal.decreases-loop-next
decreases-loop-next l = length l.plan.lines - dealt (length l.plan.lines) l.next
