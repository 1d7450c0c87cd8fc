use Rattle.std.proofs.Common.{◌↔◌, drop}
use Rattle.temporal_core.specs.Cycle.{edges_at, LeadsFrom, LeadsBack}
use Rattle.temporal_core.proofs.cycle.is_closed.Given as goal

abbrev pub invariant-loop-place : goal.invariant-loop-place
invariant-loop-place l = LeadsFrom l.at (edges_at l.edges (drop l.place-index l.places)) l.start ↔ LeadsBack (edges_at l.edges l.places)
