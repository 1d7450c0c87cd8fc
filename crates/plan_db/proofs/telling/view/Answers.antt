use Rattle.std.proofs.Common.{refl, sym, ◌∙◌}
use Rattle.model_core.specs.History.{standing}
use Rattle.db_history.proofs.Keeping.{leaves_fallen, leaves_void}
use Rattle.plan_db.proofs.Answering.{can_be_seen, seen_by_store}
use Rattle.plan_db.specs.Stamps.{stamps_of}
use Rattle.plan_db.proofs.telling.view.Goals as goal

pub new-requires : goal.new-requires
new-requires c =
    can_be_seen c.args.model.now c.args.log.now c.args.kept.now c.requires (sym c.footing.ensures ∙ c.in-Rest.is) c.store.result.now c.store.ensures c.standing.result.now c.standing.ensures

pub returns-in-Rest : goal.returns-in-Rest
returns-in-Rest c =
    seen_by_store c.args.model.now c.args.log.now c.args.kept.now c.requires (sym c.footing.ensures ∙ c.in-Rest.is) c.store.result.now c.store.ensures (stamps_of c.args.kept.now) c.standing.result.now c.standing.ensures
    c.new.result c.new.ensures

pub returns-in-Fallen : goal.returns-in-Fallen
returns-in-Fallen c = (refl, leaves_fallen c.args.model.now (standing c.args.log.now) c.args.kept.now c.requires.list (sym c.footing.ensures ∙ c.in-Fallen.is))

pub returns-in-Void : goal.returns-in-Void
returns-in-Void c = (refl, leaves_void c.args.model.now (standing c.args.log.now) c.args.kept.now c.requires.list (sym c.footing.ensures ∙ c.in-Void.is))
