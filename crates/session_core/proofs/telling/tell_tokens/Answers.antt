use Rattle.std.proofs.Common.{sym, ◌∙◌}
use Rattle.model_core.specs.History.{standing}
use Rattle.session_core.specs.Replies.{TellsState, TellsTokens}
use Rattle.session_replies.proofs.Seen.{seen_least}
use Rattle.session_core.proofs.Told.{kept_answers, seen_told, unseen_told}
use Rattle.session_core.proofs.telling.tell_tokens.Goals as goal

pub tokens_reply-requires-clause-lawful : goal.tokens_reply-requires-clause-lawful
tokens_reply-requires-clause-lawful c = rw c.model.ensures.model c.model.ensures.sound.lawful

pub tokens_reply-requires-clause-model : goal.tokens_reply-requires-clause-model
tokens_reply-requires-clause-model c = c.in-Ok.ensures.model ∙ sym c.model.ensures.model

pub tokens_reply-requires-clause-tokens : goal.tokens_reply-requires-clause-tokens
tokens_reply-requires-clause-tokens c =
    (seen_least c.args.db.now c.in-Ok.view c.in-Ok.ensures c.model.ensures.sound c.model.result.now c.model.ensures.model).least.closed.consistent.is_state.tokens

pub returns-in-Ok : goal.returns-in-Ok
returns-in-Ok c =
    let database = c.args.db.now.database in
    kept_answers database (TellsState (TellsTokens database.model (standing database.history))) c.tokens_reply.result
    (seen_told c.args.db.now c.in-Ok.view c.in-Ok.ensures c.model.result.now c.model.ensures.model TellsTokens c.tokens_reply.result c.tokens_reply.ensures)

pub returns-in-Err : goal.returns-in-Err
returns-in-Err c =
    let database = c.args.db.now.database in
    kept_answers database (TellsState (TellsTokens database.model (standing database.history))) c.untold_reply.result
    (unseen_told c.args.db.now c.in-Err.fault c.in-Err.ensures (TellsTokens database.model (standing database.history)) c.untold_reply.result c.untold_reply.ensures)
