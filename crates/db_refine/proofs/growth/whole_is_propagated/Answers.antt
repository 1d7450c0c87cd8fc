use Rattle.db_refine.proofs.Whole.{whole_propagated}
use Rattle.db_refine.proofs.growth.whole_is_propagated.Goals as goal

pub returns : goal.returns
returns c = whole_propagated
