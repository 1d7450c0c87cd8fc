use Rattle.run_commands.specs.Searching.{SearchOutput, visits_of}
use Rattle.run_commands.proofs.Posed.{posed_output}
use Rattle.run_commands.proofs.planning.plan.Goals as goal

pub returns-in-Ok-clause-planned : goal.returns-in-Ok-clause-planned
returns-in-Ok-clause-planned g c = λ files told.
    posed_output files c.args.file.now (λ database. SearchOutput c.args.tokens (visits_of c.args.steps database.model) database)
    c.in-Ok.db.database c.plan_posed.result (c.in-Ok.ensures.posed files told) c.plan_posed.ensures.planned
