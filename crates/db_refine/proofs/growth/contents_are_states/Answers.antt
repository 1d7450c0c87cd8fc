use Rattle.db_refine.proofs.Alike.{in_order, in_order_alike, in_order_state}
use Rattle.db_refine.proofs.growth.contents_are_states.Goals as goal

pub returns : goal.returns
returns c = λ model content is. (in_order model content is, in_order_state model content is, in_order_alike model content is)
