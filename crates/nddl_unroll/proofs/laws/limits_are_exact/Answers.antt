use Rattle.nddl_unroll.proofs.ExactTrees.{limits_exact}
use Rattle.nddl_unroll.proofs.laws.limits_are_exact.Goals as goal

pub returns : goal.returns
returns c = limits_exact
