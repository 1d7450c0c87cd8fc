use Rattle.constraint_net.specs.Networks.{AllConsistent}
use Rattle.constraint_net.proofs.Outcome.{one_left, not_both}
use Rattle.constraint_net.proofs.laws.propagation_has_one_outcome.Goals as goal

pub returns-clause-one : goal.returns-clause-one
returns-clause-one c = λ tables constraints. one_left (AllConsistent tables constraints)

pub returns-clause-decided : goal.returns-clause-decided
returns-clause-decided c = λ tables constraints. not_both (AllConsistent tables constraints)
