use Rattle.solver_core.proofs.advancing.unless_taken.Given as goal

abbrev pub ghost-go_back : goal.ghost-go_back
ghost-go_back g a = g.task
