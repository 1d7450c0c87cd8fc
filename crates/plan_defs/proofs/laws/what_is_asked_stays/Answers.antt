use Rattle.plan_defs.proofs.Lower.{asks_as_much, turn_below}
use Rattle.plan_defs.proofs.laws.what_is_asked_stays.Goals as goal

pub returns-clause-asked : goal.returns-clause-asked
returns-clause-asked c = asks_as_much

pub returns-clause-orders : goal.returns-clause-orders
returns-clause-orders c = λ model decisions high low one other high_ok low_ok below. turn_below model decisions high low high_ok low_ok below one other
