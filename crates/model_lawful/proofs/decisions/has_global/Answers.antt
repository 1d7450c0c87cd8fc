use Rattle.std.proofs.Common.{refl}
use Rattle.model_typing.proofs.Telling.{told_not, told_so}
use Rattle.model_lawful.proofs.decisions.has_global.Goals as goal

pub returns-in-Some : goal.returns-in-Some
returns-in-Some c = told_so _ (_, (_, c.in-Some.ensures, refl))

pub returns-in-None : goal.returns-in-None
returns-in-None c = told_not _ (λ has. c.in-None.ensures has.1.0 has.1.1)
