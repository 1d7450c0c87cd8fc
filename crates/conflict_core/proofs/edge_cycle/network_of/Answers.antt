use Rattle.conflict_core.proofs.Ordering.{some_points}
use Rattle.conflict_core.proofs.edge_cycle.network_of.Goals as goal

pub numbered_all-requires-clause-some : goal.numbered_all-requires-clause-some
numbered_all-requires-clause-some c = some_points c.args.points.now c.requires.are
