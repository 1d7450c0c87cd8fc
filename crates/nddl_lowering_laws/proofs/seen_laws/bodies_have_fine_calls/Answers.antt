use Rattle.nddl_lowering_laws.proofs.Relating.{bodies_fine}
use Rattle.nddl_lowering_laws.proofs.seen_laws.bodies_have_fine_calls.Goals as goal

pub returns : goal.returns
returns c = bodies_fine
