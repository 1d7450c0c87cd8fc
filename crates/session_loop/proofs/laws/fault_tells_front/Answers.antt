use Rattle.session_loop.proofs.LawLemmas.{fault_tells_front}
use Rattle.session_loop.proofs.laws.fault_tells_front.Goals as goal

pub returns : goal.returns
returns g c = fault_tells_front g.T.Responder.answers
