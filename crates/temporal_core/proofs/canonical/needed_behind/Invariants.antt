use Rattle.std.proofs.Common.{◌-◌, length}
use Rattle.temporal_core.proofs.Thinning.{IsLeaving}
use Rattle.temporal_core.proofs.canonical.needed_behind.Given as goal

abbrev pub invariant-loop-kept : goal.invariant-loop-kept
invariant-loop-kept l = IsLeaving (length l.fn.thinned.values.items) l.edges l.kept.items l.next l.thinned

abbrev pub decreases-loop-kept : goal.decreases-loop-kept
decreases-loop-kept l = length l.edges - l.next
