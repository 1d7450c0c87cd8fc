use Rattle.std.proofs.Common.{◌<◌, List, [], ◌∷◌, ◌++◌, length}
use Rattle.temporal_core.specs.declared.edges.Edge.{Edge}
use Rattle.temporal_core.specs.Schedule.{AreGreatestValues}
use Rattle.flow_envelope.specs.Sums.{change_at}
use Rattle.flow_envelope.specs.Certain.{AreCertain}
use Rattle.flow_envelope.specs.Pairs.{ArePairs}
use Rattle.flow_envelope.specs.Pins.{early_edge}
use Rattle.flow_envelope.proofs.Matching.{DealtWith}
use Rattle.flow_envelope.proofs.pairs.add_takers.Given as goal

abbrev pub invariant-loop-place : goal.invariant-loop-place
invariant-loop-place l = (edges : List Edge) → AreCertain edges l.changes l.fn.at l.certain
    → AreGreatestValues (length l.greatest) (edges ++ early_edge l.fn.at (change_at l.changes l.adder).point ∷ []) l.greatest
    → ArePairs edges l.changes l.fn.at l.certain (λ one other. one < l.adder) l.initial.pairs.items
    → ArePairs edges l.changes l.fn.at l.certain (DealtWith l.adder l.place) l.pairs.items
