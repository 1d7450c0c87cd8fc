use Rattle.std.proofs.Common.{ℕ, List}
use Rattle.temporal_core.specs.Canonical.{IsCycleOf}
use Rattle.temporal_core.proofs.Following.{IsOrderedTo}
use Rattle.temporal_core.proofs.canonical.in_order.Given as goal

abbrev pub invariant-loop-turn : goal.invariant-loop-turn
invariant-loop-turn l = (cycle : List ℕ) → IsCycleOf l.edges l.places cycle → IsOrderedTo cycle l._turn l.ordered.items l.place
