use Rattle.nddl_lowering_laws.proofs.Entering.{blocks_small}
use Rattle.nddl_lowering_laws.proofs.laws.blocks_are_small.Goals as goal

pub returns : goal.returns
returns c = blocks_small
