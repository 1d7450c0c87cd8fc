use Rattle.std.proofs.Common.{sym, ◌∙◌}
use Rattle.model_core.specs.History.{standing}
use Rattle.session_core.specs.Replies.{TellsState, TellsFlaw}
use Rattle.session_replies.proofs.Seen.{seen_least}
use Rattle.session_core.proofs.Told.{kept_answers, seen_told, unseen_told}
use Rattle.session_core.proofs.telling.tell_flaw.Goals as goal

pub tell_any-requires-clause-model : goal.tell_any-requires-clause-model
tell_any-requires-clause-model c = c.in-Ok.ensures.model ∙ sym c.model.ensures.model

pub tell_any-requires-clause-least : goal.tell_any-requires-clause-least
tell_any-requires-clause-least c = seen_least c.args.db.now c.in-Ok.view c.in-Ok.ensures c.model.ensures.sound c.model.result.now c.model.ensures.model

pub returns-in-Ok : goal.returns-in-Ok
returns-in-Ok c =
    let database = c.args.db.now.database in
    kept_answers database (TellsState (TellsFlaw database.model (standing database.history))) c.tell_any.result
    (seen_told c.args.db.now c.in-Ok.view c.in-Ok.ensures c.model.result.now c.model.ensures.model TellsFlaw c.tell_any.result c.tell_any.ensures)

pub returns-in-Err : goal.returns-in-Err
returns-in-Err c =
    let database = c.args.db.now.database in
    kept_answers database (TellsState (TellsFlaw database.model (standing database.history))) c.untold_reply.result
    (unseen_told c.args.db.now c.in-Err.fault c.in-Err.ensures (TellsFlaw database.model (standing database.history)) c.untold_reply.result c.untold_reply.ensures)
