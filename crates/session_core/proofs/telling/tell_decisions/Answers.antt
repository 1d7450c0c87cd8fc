use Rattle.session_replies.proofs.Settled.{standing_writable}
use Rattle.session_core.proofs.Flaws.{decisions_told}
use Rattle.session_core.proofs.telling.tell_decisions.Goals as goal

pub decisions_reply-requires-clause-lawful : goal.decisions_reply-requires-clause-lawful
decisions_reply-requires-clause-lawful c = rw c.model.ensures.model c.model.ensures.sound.lawful

pub decisions_reply-requires-clause-writable : goal.decisions_reply-requires-clause-writable
decisions_reply-requires-clause-writable c =
    rw (c.model.ensures.model, c.decisions.ensures) (standing_writable c.args.db.now.database.model c.args.db.now.database.history c.model.ensures.sound.history)

pub returns : goal.returns
returns c = decisions_told c.args.db.now.database c.decisions_reply.result (rw (c.model.ensures.model, c.decisions.ensures) at c.decisions_reply.ensures)
