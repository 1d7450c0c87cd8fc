use Rattle.plan_defs.proofs.Sharing.{shares_are_sums}
use Rattle.plan_defs.proofs.laws.shares_are_sums.Goals as goal

pub returns : goal.returns
returns c = λ model decisions state object instant capacity listed ok lists. shares_are_sums model decisions state object instant ok listed lists capacity
