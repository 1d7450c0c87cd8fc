use Rattle.constraint_net.proofs.Marking.{stays_added, stays_posted, stays_limited, stays_tabled, stays_taken, stays_down, stays_returned}
use Rattle.constraint_net.proofs.laws.marks_stay.Goals as goal

pub returns-clause-added : goal.returns-clause-added
returns-clause-added c = λ old new domain result adds mark domains constraints is. stays_added mark domains constraints old new domain result is adds

pub returns-clause-posted : goal.returns-clause-posted
returns-clause-posted c = λ old new kind args result posts mark domains constraints is. stays_posted mark domains constraints old new kind args result is posts

pub returns-clause-limited : goal.returns-clause-limited
returns-clause-limited c = λ old new variable to result limits mark domains constraints is. stays_limited mark domains constraints old new variable to result is limits

pub returns-clause-tabled : goal.returns-clause-tabled
returns-clause-tabled c = λ old new table more mark domains constraints is. stays_tabled mark domains constraints old new table is more

pub returns-clause-taken : goal.returns-clause-taken
returns-clause-taken c = λ old new result takes mark domains constraints is. stays_taken mark domains constraints old new result is takes

pub returns-clause-propagated : goal.returns-clause-propagated
returns-clause-propagated c = λ old new down mark domains constraints is. stays_down mark domains constraints old new is down

pub returns-clause-returned : goal.returns-clause-returned
returns-clause-returned c = λ old new mark later domains constraints. stays_returned mark domains constraints old new later
