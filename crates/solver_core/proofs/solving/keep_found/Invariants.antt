use Rattle.solver_core.proofs.solving.keep_found.Given as goal

abbrev pub ghost-rewind : goal.ghost-rewind
ghost-rewind g a = g.task.database
