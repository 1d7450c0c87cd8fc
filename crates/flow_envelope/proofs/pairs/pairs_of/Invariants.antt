use Rattle.std.proofs.Common.{◌<◌}
use Rattle.flow_envelope.specs.Pairs.{ArePairs}
use Rattle.flow_envelope.proofs.pairs.pairs_of.Given as goal

abbrev pub invariant-loop-adder : goal.invariant-loop-adder
invariant-loop-adder l = ArePairs l.edges.edges l.changes l.fn.at l.certain (λ one other. one < l.adder) l.pairs.items
