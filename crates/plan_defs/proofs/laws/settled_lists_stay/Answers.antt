use Rattle.plan_defs.proofs.Settling.{Settles-idempotent, front_has_least, history_settled}
use Rattle.plan_defs.proofs.laws.settled_lists_stay.Goals as goal

pub returns-clause-idempotent : goal.returns-clause-idempotent
returns-clause-idempotent c = Settles-idempotent

pub returns-clause-fronts : goal.returns-clause-fronts
returns-clause-fronts c = front_has_least

pub returns-clause-histories : goal.returns-clause-histories
returns-clause-histories c = history_settled
