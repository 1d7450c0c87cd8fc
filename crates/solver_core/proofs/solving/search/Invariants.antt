use Rattle.std.proofs.Common.{◌-◌}
use Rattle.solver_core.specs.Underway.{ComesTo}
use Rattle.solver_core.proofs.solving.search.Given as goal

abbrev pub ghost-advance : goal.ghost-advance
ghost-advance g a = g.task

abbrev pub invariant-loop-course : goal.invariant-loop-course
invariant-loop-course g l = ComesTo (g.R.FlawRule.is_first l.rule) (g.R.FlawRule.are_choices l.rule) g.task l.course l.db

abbrev pub decreases-loop-course : goal.decreases-loop-course
decreases-loop-course g l = l.budget - l.course.visits
