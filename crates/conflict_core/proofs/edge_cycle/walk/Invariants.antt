use Rattle.std.proofs.Common.{◌≡◌, take}
use Rattle.conflict_core.specs.Walks.{walk_at}
use Rattle.conflict_core.proofs.edge_cycle.walk.Given as goal

abbrev pub invariant-loop-place : goal.invariant-loop-place
invariant-loop-place l = l.found.items ≡ walk_at l.edges (take l.place-index l.places)
