use Rattle.nddl_lowering_laws.proofs.Relating.{blocks_fine}
use Rattle.nddl_lowering_laws.proofs.seen_laws.blocks_have_fine_calls.Goals as goal

pub returns : goal.returns
returns c = blocks_fine
