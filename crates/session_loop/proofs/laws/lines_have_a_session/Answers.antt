use Rattle.session_loop.proofs.LawLemmas.{lines_have_a_session}
use Rattle.session_loop.proofs.laws.lines_have_a_session.Goals as goal

pub returns : goal.returns
returns g c = lines_have_a_session g.T.Responder.answers
