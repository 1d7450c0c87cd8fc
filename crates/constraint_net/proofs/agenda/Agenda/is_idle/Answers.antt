use Rattle.std.proofs.Common.{length, ap, arith}
use Rattle.constraint_net.proofs.Queueing.{told_no}
use Rattle.constraint_net.proofs.agenda.Agenda.is_idle.Goals as goal

pub returns-in-None : goal.returns-in-None
returns-in-None c = ((λ yes_it. (c.is_from.ensures.0 yes_it, c.in-None.ensures.first)), (λ both. c.is_from.ensures.1 both.0))

pub returns-in-Some : goal.returns-in-Some
returns-in-Some c = told_no (λ both. let is = c.in-Some.ensures.first in absurd (omega (arith, ap length is.1, ap length both.1)))
