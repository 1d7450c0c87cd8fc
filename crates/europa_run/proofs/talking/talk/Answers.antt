use Rattle.std.proofs.Common.{subst}
use Rattle.plan_db.specs.Database.{Database}
use Rattle.europa_run.specs.Steps.{EditTells}
use Rattle.europa_run.proofs.Scripts.{session_unbegun}
use Rattle.europa_run.proofs.talking.talk.Goals as goal

pub returns-in-Ok-clause-told : goal.returns-in-Ok-clause-told
returns-in-Ok-clause-told g c =
    subst (λ (start : Database). EditTells start (record { left = g.S.Source.left c.args.input.now; written = g.O.Sink.written c.args.out.now })
    (record { left = g.S.Source.left c.edit_new.new.input; written = g.O.Sink.written c.edit_new.new.out }) c.edit_new.result) c.in-Ok.ensures c.edit_new.ensures.told

pub returns-in-Err-clause-told : goal.returns-in-Err-clause-told
returns-in-Err-clause-told g c =
    session_unbegun c.args.db.database (record { left = g.S.Source.left c.args.input.now; written = g.O.Sink.written c.args.out.now })
