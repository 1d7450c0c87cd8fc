use Rattle.db_refine.proofs.Owing.{no_void}
use Rattle.db_refine.proofs.growth.void_leaves_nothing.Goals as goal

pub returns : goal.returns
returns c = no_void
