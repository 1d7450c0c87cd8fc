use Rattle.domain_core.proofs.Lists.{makes_one}
use Rattle.domain_core.proofs.laws.a_list_makes_one_set.Goals as goal

pub returns : goal.returns
returns c = makes_one
