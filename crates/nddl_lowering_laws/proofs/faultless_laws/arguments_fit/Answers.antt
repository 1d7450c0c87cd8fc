use Rattle.nddl_lowering_laws.proofs.Trees.{arguments_fit}
use Rattle.nddl_lowering_laws.proofs.faultless_laws.arguments_fit.Goals as goal

pub returns : goal.returns
returns c = arguments_fit
