use Rattle.model_core.proofs.Earlier.{earlier_end}
use Rattle.model_core.proofs.copy.earlier_ends_are_lawful.Goals as goal

pub returns : goal.returns
returns c = earlier_end
