use Rattle.solver_core.proofs.solving.solve.Given as goal

abbrev pub ghost-run : goal.ghost-run
ghost-run g a = record { database = a.db.now.database; bound = a.bound; budget = a.budget }
