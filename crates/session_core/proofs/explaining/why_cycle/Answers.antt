use Rattle.session_replies.proofs.Pointing.{cycle_writable}
use Rattle.session_core.proofs.Explained.{cycle_told, edges_there, unexplained_cycle}
use Rattle.session_core.proofs.explaining.why_cycle.Goals as goal

pub cycle_reply-requires-clause-lawful : goal.cycle_reply-requires-clause-lawful
cycle_reply-requires-clause-lawful c = rw c.model.ensures.model c.model.ensures.sound.lawful

pub returns-in-Ok : goal.returns-in-Ok
returns-in-Ok c = cycle_told c.args.db.now c.in-Ok.cycle.items c.in-Ok.ensures c.cycle_reply.result (rw (c.model.ensures.model, c.as_slice.ensures.value) at c.cycle_reply.ensures)

pub returns-in-Err : goal.returns-in-Err
returns-in-Err c = unexplained_cycle c.args.db.now c.in-Err.fault c.in-Err.ensures c.unexplained.result c.unexplained.ensures

pub cycle_reply-requires-clause-writable : goal.cycle_reply-requires-clause-writable
cycle_reply-requires-clause-writable c =
    rw (c.model.ensures.model, c.as_slice.ensures.value)
    (cycle_writable c.args.db.now.database.model c.in-Ok.ensures.edges c.in-Ok.cycle.items c.in-Ok.ensures.is_cycle
    (edges_there c.args.db.now.database c.in-Ok.ensures.edges c.model.ensures.sound c.in-Ok.ensures.are_edges))
