use Rattle.law_examples.proofs.Reasons.{order_of_one, order_free}
use Rattle.law_examples.proofs.Posted.{relation_of_one, relation_free}
use Rattle.law_examples.proofs.refusals.orders_are_of_two_tokens.Goals as goal

pub returns-clause-same : goal.returns-clause-same
returns-clause-same c = order_of_one

pub returns-clause-other : goal.returns-clause-other
returns-clause-other c = order_free

pub returns-clause-related_to_itself : goal.returns-clause-related_to_itself
returns-clause-related_to_itself c = relation_of_one

pub returns-clause-related : goal.returns-clause-related
returns-clause-related c = relation_free
