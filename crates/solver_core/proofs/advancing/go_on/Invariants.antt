use Rattle.solver_core.proofs.advancing.go_on.Given as goal

abbrev pub ghost-take_next : goal.ghost-take_next
ghost-take_next g a = g.task

abbrev pub ghost-unless_taken : goal.ghost-unless_taken
ghost-unless_taken g a = g.task
