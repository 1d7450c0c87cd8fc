use Rattle.plan_defs.proofs.Reservoirs.{reservoirs_above}
use Rattle.plan_defs.proofs.Resources.{reusables_above}
use Rattle.db_refine.proofs.growth.resources_fit_above.Goals as goal

pub returns-clause-reusables : goal.returns-clause-reusables
returns-clause-reusables c = reusables_above

pub returns-clause-reservoirs : goal.returns-clause-reservoirs
returns-clause-reservoirs c = reservoirs_above
