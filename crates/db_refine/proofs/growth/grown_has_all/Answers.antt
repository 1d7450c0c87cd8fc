use Rattle.db_refine.proofs.GrownSupport.{has_all}
use Rattle.db_refine.proofs.growth.grown_has_all.Goals as goal

pub returns : goal.returns
returns c = has_all
