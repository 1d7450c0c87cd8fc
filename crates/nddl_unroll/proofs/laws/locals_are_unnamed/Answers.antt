use Rattle.nddl_unroll.proofs.Trees.{trees_unnamed}
use Rattle.nddl_unroll.proofs.laws.locals_are_unnamed.Goals as goal

pub returns : goal.returns
returns c = trees_unnamed
