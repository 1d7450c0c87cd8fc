use Rattle.std.proofs.Common.{◌≢◌, ◌↔◌, drop}
use Rattle.std.specs.Prelude.{All}
use Rattle.temporal_core.specs.declared.edges.Edge.{Edge}
use Rattle.temporal_core.specs.Cycle.{edges_at}
use Rattle.temporal_core.proofs.cycle.none_from.Given as goal

abbrev pub invariant-loop-place : goal.invariant-loop-place
invariant-loop-place l = All (λ (other : Edge). other.from ≢ l.point) (edges_at l.edges (drop l.place-index l.places)) ↔ All (λ (other : Edge). other.from ≢ l.point) (edges_at l.edges l.places)
