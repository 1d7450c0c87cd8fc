use Rattle.std.proofs.Common.{◌+◌, ◌-◌, ◌-ℤ◌, length}
use borrow.Author.Differences.{up, down}
use Rattle.temporal_core.specs.Satisfied.{value_at, value_sum}
use Rattle.temporal_core.proofs.Values.{top}
use Rattle.temporal_core.proofs.Raising.{IsRaising}
use Rattle.temporal_core.proofs.satisfied.raise.Given as goal

abbrev pub invariant-loop-point : goal.invariant-loop-point
invariant-loop-point l = IsRaising l.graph.edges.items l.start l.value l.fixed l.fn.values l.values l.queue.items

-- how far the values can still rise, and how many points wait
abbrev pub decreases-loop-point : goal.decreases-loop-point
decreases-loop-point l =
    let most = top (l.value -ℤ value_at l.fn.values l.start) l.fn.values in
    ((up most + down (value_sum l.values)) - (up (value_sum l.values) + down most)) + length l.queue.items
