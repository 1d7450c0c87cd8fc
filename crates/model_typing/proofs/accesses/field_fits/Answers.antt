use Rattle.model_typing.proofs.Telling.{told_not}
use Rattle.model_typing.proofs.accesses.field_fits.Goals as goal

pub returns-in-None : goal.returns-in-None
returns-in-None c = told_not _ (λ is. c.in-None.ensures is.variable is.has_field)
