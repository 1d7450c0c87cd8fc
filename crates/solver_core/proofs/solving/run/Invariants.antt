use Rattle.solver_core.proofs.solving.run.Given as goal

abbrev pub ghost-search_anew : goal.ghost-search_anew
ghost-search_anew g a = g.task

abbrev pub ghost-keep_found : goal.ghost-keep_found
ghost-keep_found g a = g.task
