use Rattle.plan_defs.proofs.States.{IsBelow-refl, IsBelow-trans, IsBelow-antisym}
use Rattle.plan_defs.proofs.laws.below_is_an_order.Goals as goal

pub returns-clause-reflexive : goal.returns-clause-reflexive
returns-clause-reflexive c = IsBelow-refl

pub returns-clause-transitive : goal.returns-clause-transitive
returns-clause-transitive c = IsBelow-trans

pub returns-clause-antisymmetric : goal.returns-clause-antisymmetric
returns-clause-antisymmetric c = IsBelow-antisym
