use Rattle.session_core.proofs.AlongSession.{solved_ends}
use Rattle.session_core.proofs.laws.solved_ends_prove.Goals as goal

pub returns : goal.returns
returns c = solved_ends c.printed_ends_prove.ensures
