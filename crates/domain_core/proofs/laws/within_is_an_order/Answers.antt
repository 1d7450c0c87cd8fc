use Rattle.domain_core.proofs.Words.{IsWithin-refl, IsWithin-trans, IsWithin-antisym, slack_within, same_slack}
use Rattle.domain_core.proofs.laws.within_is_an_order.Goals as goal

pub returns-clause-reflexive : goal.returns-clause-reflexive
returns-clause-reflexive c = IsWithin-refl

pub returns-clause-transitive : goal.returns-clause-transitive
returns-clause-transitive c = IsWithin-trans

pub returns-clause-antisymmetric : goal.returns-clause-antisymmetric
returns-clause-antisymmetric c = IsWithin-antisym

pub returns-clause-measured : goal.returns-clause-measured
returns-clause-measured c = λ inner outer p q within. (slack_within inner outer p q within, same_slack inner outer p q within)
