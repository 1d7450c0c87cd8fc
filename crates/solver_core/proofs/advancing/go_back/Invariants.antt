use Rattle.std.proofs.Common.{◌≡◌, length, reverse}
use Rattle.solver_core.specs.Underway.{HasFailed}
use Rattle.solver_core.proofs.advancing.go_back.Given as goal

abbrev pub ghost-back_to : goal.ghost-back_to
ghost-back_to g a = g.task

abbrev pub invariant-loop-branch : goal.invariant-loop-branch
invariant-loop-branch g l = record {
  failed : HasFailed (g.R.FlawRule.is_first l.rule) (g.R.FlawRule.are_choices l.rule) g.task (reverse l.course.branches.items) l.course.visits l.course.left_out l.db;
  visits : l.course.visits ≡ l.initial.course.visits;
}

abbrev pub decreases-loop-branch : goal.decreases-loop-branch
decreases-loop-branch g l = length l.course.branches.items
