use Rattle.nddl_unroll.proofs.Trees.{trees_counted}
use Rattle.nddl_unroll.proofs.laws.texts_are_counted.Goals as goal

pub returns : goal.returns
returns c = trees_counted
