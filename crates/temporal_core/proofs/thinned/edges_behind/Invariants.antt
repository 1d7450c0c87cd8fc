use Rattle.temporal_core.proofs.Thinning.{IsBehind}
use Rattle.temporal_core.proofs.thinned.edges_behind.Given as goal

abbrev pub invariant-loop-place : goal.invariant-loop-place
invariant-loop-place l = IsBehind l.edges l.last l.place l.thin.items
