use Rattle.db_refine.proofs.Propagation.{propagation_above}
use Rattle.db_refine.proofs.growth.propagation_stays_above.Goals as goal

pub returns : goal.returns
returns c = λ model decisions tables posted content result domains is fields owed above propagated.
    propagation_above model decisions tables posted content is fields owed above result domains propagated
