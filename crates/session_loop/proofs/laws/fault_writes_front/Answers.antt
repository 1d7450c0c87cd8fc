use Rattle.session_loop.proofs.LawLemmas.{fault_writes_front}
use Rattle.session_loop.proofs.laws.fault_writes_front.Goals as goal

pub returns : goal.returns
returns g c = fault_writes_front g.T.Responder.answers
