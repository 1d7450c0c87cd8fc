use Rattle.std.proofs.Common.{◌≡◌, take, map}
use Rattle.flow_envelope.specs.Filling.{to_give}
use Rattle.flow_envelope.proofs.filling.all_given.Given as goal

abbrev pub invariant-loop-change : goal.invariant-loop-change
invariant-loop-change l = l.more.items ≡ map to_give (take l.change-index l.changes)
