use Rattle.db_fixpoint.proofs.Naming.{unfolded_blocks_can_be_read}
use Rattle.db_fixpoint.proofs.laws.unfolded_blocks_can_be_read.Goals as goal

pub returns : goal.returns
returns c = unfolded_blocks_can_be_read
