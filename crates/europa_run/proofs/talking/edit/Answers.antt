use Rattle.std.proofs.Common.{refl}
use Rattle.europa_run.proofs.talking.edit.Goals as goal

pub returns-clause-told : goal.returns-clause-told
returns-clause-told g c = rw c.ended_by.ensures (c.session-end.new.responder, (c.session-end.result, (refl, c.session-end.ensures.told)))
