use Rattle.eu_name.proofs.Orders.{token_order, var_order}
use Rattle.eu_name.proofs.laws.names_are_in_order.Goals as goal

pub returns-clause-tokens : goal.returns-clause-tokens
returns-clause-tokens c = token_order

pub returns-clause-variables : goal.returns-clause-variables
returns-clause-variables c = var_order
