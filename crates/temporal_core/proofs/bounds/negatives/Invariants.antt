use Rattle.std.proofs.Common.{◌≡◌, take, map}
use Rattle.temporal_core.specs.Bounds.{negative_of}
use Rattle.temporal_core.proofs.bounds.negatives.Given as goal

abbrev pub invariant-loop-value : goal.invariant-loop-value
invariant-loop-value l = l.turned.items ≡ map negative_of (take l.value-index l.values)
