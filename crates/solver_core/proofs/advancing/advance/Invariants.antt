use Rattle.solver_core.proofs.advancing.advance.Given as goal

abbrev pub ghost-go_back : goal.ghost-go_back
ghost-go_back g a = g.task

abbrev pub ghost-go_on : goal.ghost-go_on
ghost-go_on g a = g.task
