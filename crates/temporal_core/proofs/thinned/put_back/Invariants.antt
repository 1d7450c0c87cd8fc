use Rattle.std.proofs.Common.{◌≡◌, ℕ, ◌<◌, ◌≤◌, List, length}
use Rattle.temporal_core.specs.Canonical.{missing, IsThinned}
use Rattle.temporal_core.proofs.thinned.put_back.Given as goal

abbrev pub invariant-loop-place : goal.invariant-loop-place
invariant-loop-place l = record {
  count : length l.thinned.graph.edges.items ≡ length l.edges;
  from : l.first ≤ l.place;
  back : (points : ℕ) (kept : List ℕ) → missing kept < l.first → IsThinned points l.edges kept l.end l.fn.thinned → IsThinned points l.edges kept l.place l.thinned;
}
