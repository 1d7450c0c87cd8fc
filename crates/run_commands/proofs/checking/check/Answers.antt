use Rattle.std.proofs.Common.{◌∙◌}
use Rattle.eu_io.specs.Files.{file_named}
use Rattle.run_commands.specs.Checking.{PlanFileOutput}
use Rattle.run_commands.proofs.Posed.{posed_output}
use Rattle.run_commands.proofs.checking.check.Goals as goal

pub returns-in-Ok-clause-checked : goal.returns-in-Ok-clause-checked
returns-in-Ok-clause-checked g c = λ files told.
    let plan = c.args.plan.now in
    posed_output files c.args.file.now (λ database. PlanFileOutput database.model plan (file_named plan files)) c.in-Ok.db.database
    c.check_posed.result (c.in-Ok.ensures.posed files told) (c.check_posed.ensures.checked files (c.in-Ok.ensures.kept ∙ told))
