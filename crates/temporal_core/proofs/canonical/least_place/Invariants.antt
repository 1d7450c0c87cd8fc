use Rattle.std.proofs.Common.{◌≤◌, take}
use Rattle.std.specs.Prelude.{All, Contains}
use Rattle.temporal_core.specs.Canonical.{edge_at}
use Rattle.temporal_core.proofs.canonical.least_place.Given as goal

abbrev pub invariant-loop-place : goal.invariant-loop-place
invariant-loop-place l = record {
  member : Contains l.places l.least;
  least : All (λ place. (edge_at l.edges l.least).from ≤ (edge_at l.edges place).from) (take l.place-index l.places);
}
