use Rattle.europa_run.proofs.Comings.{unposed_comes}
use Rattle.europa_run.proofs.answering.script.Goals as goal

pub returns-in-Err-clause-comes : goal.returns-in-Err-clause-comes
returns-in-Err-clause-comes g c = λ files told.
    rw c.printed.ensures.told (unposed_comes files c.args.file.now c.in-Err.fault c.unposed.result (c.in-Err.ensures.posed files told) c.unposed.ensures.told)
