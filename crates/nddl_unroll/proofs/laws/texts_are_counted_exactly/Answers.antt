use Rattle.nddl_unroll.proofs.ExactTrees.{trees_exact}
use Rattle.nddl_unroll.proofs.laws.texts_are_counted_exactly.Goals as goal

pub returns : goal.returns
returns c = trees_exact
