use Rattle.nddl_laws.proofs.Ordered.{trees_ordered}
use Rattle.nddl_laws.proofs.rule_laws.names_are_read_in_order.Goals as goal

pub returns : goal.returns
returns c = trees_ordered
