use Rattle.std.proofs.Common.{◌≢◌, take}
use Rattle.std.specs.Prelude.{All}
use Rattle.temporal_core.specs.Canonical.{edge_at}
use Rattle.temporal_core.proofs.canonical.place_from.Given as goal

abbrev pub invariant-loop-place : goal.invariant-loop-place
invariant-loop-place l = All (λ place. (edge_at l.edges place).from ≢ l.point) (take l.place-index l.places)
