use Rattle.std.proofs.Common.{◌≡◌, ℕ, ◌<◌, List, length}
use Rattle.std.specs.Prelude.{All}
use Rattle.temporal_core.specs.Canonical.{IsThinned}
use Rattle.temporal_core.proofs.thinned.leave_out.Given as goal

abbrev pub invariant-loop-place : goal.invariant-loop-place
invariant-loop-place l = record {
  count : length l.thinned.graph.edges.items ≡ length l.edges;
  left : (points : ℕ) (kept : List ℕ) → All (λ other. other < l.first) kept → IsThinned points l.edges kept l.first l.fn.thinned → IsThinned points l.edges kept l.place l.thinned;
}
