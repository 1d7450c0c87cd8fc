use Rattle.plan_defs.proofs.Bounding.{bounds_both}
use Rattle.plan_defs.proofs.laws.claims_of_order_bound_both.Goals as goal

pub returns-clause-propagated : goal.returns-clause-propagated
returns-clause-propagated c = bounds_both

pub returns-clause-closed : goal.returns-clause-closed
returns-clause-closed c = λ model decisions high low one other high_ok fit. bounds_both model decisions high low one other high_ok fit.consistent
