use Rattle.std.proofs.Common.{◌≤◌, length}
use Rattle.plan_check.specs.ByObject.{AreLinked}
use Rattle.plan_check.proofs.by_object.LinesByObject.of.Given as goal

abbrev pub invariant-loop-place : goal.invariant-loop-place
invariant-loop-place l = record {
  within : l.place ≤ length l.plan.lines;
  linked : AreLinked l.plan.lines (length l.model.objects) l.place l.by_object;
}

abbrev pub decreases-loop-place : goal.decreases-loop-place
decreases-loop-place l = l.place
