use Rattle.nddl_print.proofs.RoundTrip.{spelled_as_same}
use Rattle.nddl_print.proofs.laws.same_trees_are_spelled_alike.Goals as goal

pub returns : goal.returns
returns c = spelled_as_same
