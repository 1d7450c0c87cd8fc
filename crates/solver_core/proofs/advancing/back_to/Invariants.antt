use Rattle.solver_core.proofs.advancing.back_to.Given as goal

abbrev pub ghost-take_next : goal.ghost-take_next
ghost-take_next g a = g.task
