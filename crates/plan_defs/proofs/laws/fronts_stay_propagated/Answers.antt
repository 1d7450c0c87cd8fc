use Rattle.plan_defs.proofs.Lower.{front_propagated}
use Rattle.plan_defs.proofs.laws.fronts_stay_propagated.Goals as goal

pub returns : goal.returns
returns c = front_propagated
