use Rattle.solver_core.proofs.solving.search_anew.Given as goal

abbrev pub ghost-search : goal.ghost-search
ghost-search g a = g.task
