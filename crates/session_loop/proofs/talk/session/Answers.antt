use Rattle.session_loop.proofs.ToldLemmas.{tells_from_talks}
use Rattle.session_loop.proofs.talk.session.Goals as goal

pub returns-clause-told : goal.returns-clause-told
returns-clause-told g c =
    tells_from_talks g.T.Responder.answers c.args.responder.now c.start.new.responder (g.S.Source.left c.args.input.now) (g.S.Source.left c.start.new.input)
    (g.O.Sink.written c.args.out.now) (g.O.Sink.written c.start.new.out) c.start.result c.start.ensures.talks
