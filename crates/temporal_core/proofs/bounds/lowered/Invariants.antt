use Rattle.std.proofs.Common.{◌≡◌, take, map}
use Rattle.temporal_core.specs.Bounds.{far_below}
use Rattle.temporal_core.proofs.bounds.lowered.Given as goal

abbrev pub invariant-loop-value : goal.invariant-loop-value
invariant-loop-value l = l.low.items ≡ map far_below (take l.value-index l.values)
