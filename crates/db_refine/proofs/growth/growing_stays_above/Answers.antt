use Rattle.db_refine.proofs.Owing.{nothing_above, grown_above}
use Rattle.db_refine.proofs.growth.growing_stays_above.Goals as goal

pub returns-clause-begins : goal.returns-clause-begins
returns-clause-begins c = nothing_above

pub returns-clause-grows : goal.returns-clause-grows
returns-clause-grows c = grown_above
