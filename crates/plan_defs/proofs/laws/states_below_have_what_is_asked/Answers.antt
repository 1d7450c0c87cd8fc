use Rattle.plan_defs.proofs.Lower.{has_what_is_asked}
use Rattle.plan_defs.proofs.laws.states_below_have_what_is_asked.Goals as goal

pub returns-clause-propagated : goal.returns-clause-propagated
returns-clause-propagated c = λ model decisions high low high_ok fit below. has_what_is_asked model decisions high low high_ok fit.is_state below fit

pub returns-clause-closed : goal.returns-clause-closed
returns-clause-closed c = λ model decisions high low high_ok fit below.
    has_what_is_asked model decisions high low high_ok fit.consistent.is_state below fit.consistent
