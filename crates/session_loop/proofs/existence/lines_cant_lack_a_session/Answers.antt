use Rattle.session_loop.proofs.Existing.{cant_lack_a_session}
use Rattle.session_loop.proofs.existence.lines_cant_lack_a_session.Goals as goal

pub returns : goal.returns
returns g c = cant_lack_a_session g.T.Responder.answers
