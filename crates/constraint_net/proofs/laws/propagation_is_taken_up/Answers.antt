use Rattle.constraint_net.specs.Networks.{AllConsistent}
use Rattle.constraint_net.proofs.Outcome.{taken_up}
use Rattle.constraint_net.proofs.laws.propagation_is_taken_up.Goals as goal

pub returns : goal.returns
returns c = λ tables constraints. taken_up (AllConsistent tables constraints)
