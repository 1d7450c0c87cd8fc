use Rattle.std.proofs.Common.{◌≡◌, take}
use Rattle.flow_envelope.specs.Pins.{with_more}
use Rattle.flow_envelope.proofs.more_edges.add_all.Given as goal

abbrev pub invariant-loop-edge : goal.invariant-loop-edge
invariant-loop-edge l = l.network ≡ with_more l.initial.network (take l.edge-index l.more)
