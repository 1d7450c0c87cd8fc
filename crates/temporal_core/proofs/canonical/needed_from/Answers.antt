use Rattle.std.proofs.Common.{◌+◌, ◌∷◌, []}
use Rattle.temporal_core.proofs.Thinning.{own_points}
use Rattle.temporal_core.proofs.canonical.needed_from.Goals as goal

pub needed_behind-requires-clause-thinned : goal.needed_behind-requires-clause-thinned
needed_behind-requires-clause-thinned c =
    own_points c.args.points c.args.edges.now (c.args.first ∷ []) (c.args.first + 1) c.in_ok-thinned.thinned c.in_ok-thinned.ensures
