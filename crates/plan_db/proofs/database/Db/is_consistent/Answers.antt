use Rattle.model_core.specs.History.{standing}
use Rattle.plan_db.proofs.Answering.{leaves_or}
use Rattle.plan_db.proofs.database.Db.is_consistent.Goals as goal

pub returns-clause-state : goal.returns-clause-state
returns-clause-state c =
    rw (← c.self.view_is)
    (λ ready. leaves_or c.self.inside.model (standing c.self.inside.log) c.fits.result
    (c.fits.ensures c.self.inside.model (standing c.self.inside.log) (c.self.invariant.kept.list ready)))
