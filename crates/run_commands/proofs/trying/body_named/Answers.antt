use Rattle.std.proofs.Common.{refl}
use Rattle.run_commands.specs.Trying.{TrialOutput}
use Rattle.run_commands.proofs.PosedTrials.{posed_told, unposed_told}
use Rattle.run_commands.proofs.trying.body_named.Goals as goal

pub returns-in-Ok-clause-told : goal.returns-in-Ok-clause-told
returns-in-Ok-clause-told c =
    posed_told c.args.shelf.now c.args.name.now TrialOutput c.in-Ok.db.database c.body_posed.result (c.in-Ok.ensures.posed c.args.shelf.now refl)
    c.body_posed.ensures.told

pub returns-in-Err-clause-told : goal.returns-in-Err-clause-told
returns-in-Err-clause-told c =
    unposed_told c.args.shelf.now c.args.name.now TrialOutput c.in-Err.fault c.unposed.result (c.in-Err.ensures.posed c.args.shelf.now refl)
    c.unposed.ensures.told
