use Rattle.std.proofs.Common.{sym, ◌∙◌}
use Rattle.model_core.specs.History.{standing}
use Rattle.db_history.proofs.Keeping.{leaves_fallen, leaves_void}
use Rattle.plan_db.specs.declared.fault.QueryFault.TheVariants.{Inconsistent}
use Rattle.plan_db.proofs.Stamping.{stamp_by_store}
use Rattle.plan_db.proofs.stamps.stamp.Goals as goal

pub returns-in-Rest : goal.returns-in-Rest
returns-in-Rest c = λ model history keeps.
    stamp_by_store model history c.args.kept.now keeps (sym c.footing.ensures ∙ c.in-Rest.is) c.store-store.result.now c.store-store.ensures c.is_sound.ensures c.args.variable.now
    c.stamp.result c.stamp.ensures

pub returns-in-Fallen : goal.returns-in-Fallen
returns-in-Fallen c = λ model history keeps.
    (Inconsistent, leaves_fallen model (standing history) c.args.kept.now keeps.list (sym c.footing.ensures ∙ c.in-Fallen.is))

pub returns-in-Void : goal.returns-in-Void
returns-in-Void c = λ model history keeps.
    (Inconsistent, leaves_void model (standing history) c.args.kept.now keeps.list (sym c.footing.ensures ∙ c.in-Void.is))
