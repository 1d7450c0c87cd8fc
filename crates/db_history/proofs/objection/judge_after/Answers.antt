use Rattle.std.proofs.Common.{sym, ◌∙◌, subst}
use Rattle.db_store.specs.Stores.{Stored, snapshot_of}
use Rattle.db_history.specs.Advancing.{IsLeastOf}
use Rattle.db_history.proofs.Keeping.{least_kept, leaves_fallen, leaves_void}
use Rattle.db_history.proofs.objection.judge_after.Goals as goal

pub object-requires-clause-least : goal.object-requires-clause-least
object-requires-clause-least c =
    subst (λ (stored : Stored). IsLeastOf c.args.model.now c.args.decisions.now (snapshot_of stored)) (sym c.store.ensures)
    (least_kept c.args.model.now c.args.decisions.now c.args.kept.now c.requires.kept (sym c.footing.ensures ∙ c.in-Rest.is))

pub returns-in-Fallen : goal.returns-in-Fallen
returns-in-Fallen c =
    leaves_fallen c.args.model.now c.args.decisions.now c.args.kept.now c.requires.kept (sym c.footing.ensures ∙ c.in-Fallen.is)

pub returns-in-Void : goal.returns-in-Void
returns-in-Void c =
    leaves_void c.args.model.now c.args.decisions.now c.args.kept.now c.requires.kept (sym c.footing.ensures ∙ c.in-Void.is)
