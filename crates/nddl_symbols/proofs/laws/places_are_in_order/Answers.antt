use Rattle.nddl_symbols.proofs.Order.{places_ordered}
use Rattle.nddl_symbols.proofs.laws.places_are_in_order.Goals as goal

pub returns : goal.returns
returns c = places_ordered
