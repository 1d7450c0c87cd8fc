use Rattle.std.proofs.Common.{take}
use Rattle.domain_core.specs.Lists.{AreDistinct}
use Rattle.domain_core.proofs.distinct.Distinct.of.Given as goal

abbrev pub invariant-loop-value : goal.invariant-loop-value
invariant-loop-value l = AreDistinct (take l.value-index l.values) l.distinct
