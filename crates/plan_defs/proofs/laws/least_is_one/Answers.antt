use Rattle.plan_defs.proofs.Settling.{least_same, least_not_collapsed}
use Rattle.plan_defs.proofs.laws.least_is_one.Goals as goal

pub returns-clause-one : goal.returns-clause-one
returns-clause-one c = least_same

pub returns-clause-not_collapsed : goal.returns-clause-not_collapsed
returns-clause-not_collapsed c = least_not_collapsed
