use Rattle.nddl_lowering_laws.proofs.Faultless.{trees_scoped}
use Rattle.nddl_lowering_laws.proofs.faultless_laws.trees_are_scoped.Goals as goal

pub returns : goal.returns
returns c = trees_scoped
