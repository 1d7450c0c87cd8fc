use Rattle.session_replies.proofs.Settled.{conflict_writable}
use Rattle.model_core.specs.History.{standing}
use Rattle.session_core.proofs.Explained.{conflict_told, unexplained_why}
use Rattle.session_core.proofs.explaining.why_reply.Goals as goal

pub decisions_reply-requires-clause-lawful : goal.decisions_reply-requires-clause-lawful
decisions_reply-requires-clause-lawful c = rw c.model.ensures.model c.model.ensures.sound.lawful

pub decisions_reply-requires-clause-writable : goal.decisions_reply-requires-clause-writable
decisions_reply-requires-clause-writable c =
    rw (c.model.ensures.model, c.as_slice.ensures.value) (conflict_writable c.args.db.now.database.model (standing c.args.db.now.database.history) c.in-Ok.conflict.items c.in-Ok.ensures.told.is_conflict)

pub returns-in-Ok : goal.returns-in-Ok
returns-in-Ok c =
    conflict_told c.args.db.now c.in-Ok.conflict.items c.in-Ok.ensures.told c.decisions_reply.result (rw (c.model.ensures.model, c.as_slice.ensures.value) at c.decisions_reply.ensures)

pub returns-in-Err : goal.returns-in-Err
returns-in-Err c = unexplained_why c.args.db.now c.in-Err.fault c.in-Err.ensures.told c.unexplained.result c.unexplained.ensures
