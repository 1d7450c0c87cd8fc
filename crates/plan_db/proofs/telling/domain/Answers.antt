use Rattle.std.proofs.Common.{sym, ◌∙◌}
use Rattle.model_core.specs.History.{standing}
use Rattle.db_history.proofs.Keeping.{leaves_fallen, leaves_void}
use Rattle.plan_db.proofs.Answering.{told_by_store}
use Rattle.plan_db.proofs.telling.domain.Goals as goal

pub returns-in-Rest : goal.returns-in-Rest
returns-in-Rest c = λ model history keeps.
    told_by_store model history c.args.kept.now keeps (sym c.footing.ensures ∙ c.in-Rest.is) c.store.result.now c.store.ensures c.args.variable.now (λ d. d.now) c.domain_in.result c.domain_in.ensures

pub returns-in-Fallen : goal.returns-in-Fallen
returns-in-Fallen c = λ model history keeps. leaves_fallen model (standing history) c.args.kept.now keeps.list (sym c.footing.ensures ∙ c.in-Fallen.is)

pub returns-in-Void : goal.returns-in-Void
returns-in-Void c = λ model history keeps. leaves_void model (standing history) c.args.kept.now keeps.list (sym c.footing.ensures ∙ c.in-Void.is)
