use Rattle.flow_envelope.specs.Latest.{AreFree}
use Rattle.flow_envelope.proofs.joined.free_points.Given as goal

abbrev pub invariant-loop-point : goal.invariant-loop-point
invariant-loop-point l = AreFree l.bounds l.point l.free.items
