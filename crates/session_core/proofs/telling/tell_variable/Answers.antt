use Rattle.session_core.proofs.Told.{variable_told, variable_untold}
use Rattle.session_core.proofs.telling.tell_variable.Goals as goal

pub domain_reply-requires-clause-lawful : goal.domain_reply-requires-clause-lawful
domain_reply-requires-clause-lawful c = rw c.model.ensures.model c.model.ensures.sound.lawful

pub domain_reply-requires-clause-declared : goal.domain_reply-requires-clause-declared
domain_reply-requires-clause-declared c =
    rw c.model.ensures.model (c.in-Ok.ensures.1.1.closed.consistent.in_base c.args.name.now c.in-Ok.domain.now c.in-Ok.ensures.1.2)

pub returns-in-Ok : goal.returns-in-Ok
returns-in-Ok c =
    variable_told c.args.db.now c.args.name.now c.in-Ok.domain.now c.in-Ok.ensures c.model.result.now c.model.ensures.model c.domain_reply.result c.domain_reply.ensures

pub returns-in-Err : goal.returns-in-Err
returns-in-Err c = variable_untold c.args.db.now c.args.name.now c.in-Err.fault c.in-Err.ensures c.untold_reply.result c.untold_reply.ensures
