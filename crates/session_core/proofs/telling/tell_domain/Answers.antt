use Rattle.std.proofs.Common.{inl, refl}
use Rattle.session_core.specs.Replies.{TellsState, TellsDomain}
use Rattle.session_core.proofs.Told.{kept_answers, domain_told, domain_unknown, domain_collapsed}
use Rattle.session_core.proofs.telling.tell_domain.Goals as goal

pub returns-then-not-is_consistent : goal.returns-then-not-is_consistent
returns-then-not-is_consistent c =
    let database = c.args.db.now.database in
    kept_answers database (TellsState (TellsDomain database.model c.args.text.now)) c.outcome_reply.result
    (domain_collapsed database c.args.text.now (c.if-not-is_consistent.ensures.state c.requires.ready) c.outcome_reply.result c.outcome_reply.ensures)

pub returns-in-Ok-Some : goal.returns-in-Ok-Some
returns-in-Ok-Some c =
    let database = c.args.db.now.database in
    let names = rw c.in-Ok-Some.field-0-is at c.in-Ok-Some.ensures.named in
    kept_answers database (TellsState (TellsDomain database.model c.args.text.now)) c.tell_variable.result
    (domain_told database c.args.text.now c.in-Ok-Some.ensures.lawful c.in-Ok-Some.name names c.tell_variable.result c.tell_variable.ensures)

pub returns-in-Ok-None : goal.returns-in-Ok-None
returns-in-Ok-None c =
    let database = c.args.db.now.database in
    let none = rw c.in-Ok-None.field-0-is at c.in-Ok-None.ensures.named in
    kept_answers database (TellsState (TellsDomain database.model c.args.text.now)) c.unknown_reply.result
    (domain_unknown database c.args.text.now (c.if-not-is_consistent.ensures.state c.requires.ready) none c.unknown_reply.result c.unknown_reply.ensures)

pub returns-in-Err : goal.returns-in-Err
returns-in-Err c = inl refl
