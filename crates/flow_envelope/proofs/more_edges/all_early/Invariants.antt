use Rattle.std.proofs.Common.{◌≡◌, take, map}
use Rattle.flow_envelope.specs.Pins.{early_edge}
use Rattle.flow_envelope.proofs.more_edges.all_early.Given as goal

abbrev pub invariant-loop-point : goal.invariant-loop-point
invariant-loop-point l = l.edges.items ≡ map (early_edge l.at) (take l.point-index l.points)
