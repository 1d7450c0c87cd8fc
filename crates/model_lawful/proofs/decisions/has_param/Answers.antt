use Rattle.model_typing.proofs.Telling.{told_not, told_so}
use Rattle.model_lawful.proofs.decisions.has_param.Goals as goal

pub returns-in-Some : goal.returns-in-Some
returns-in-Some c = told_so _ (_, c.in-Some.ensures)

pub returns-in-None : goal.returns-in-None
returns-in-None c = told_not _ (λ has. c.in-None.ensures has.0 has.1)
