use Rattle.session_loop.proofs.LawLemmas.{session_is_one}
use Rattle.session_loop.proofs.laws.session_is_one.Goals as goal

pub returns : goal.returns
returns g c = session_is_one g.T.Responder.answers
