use Rattle.std.proofs.Common.{◌≡◌, take, map}
use Rattle.flow_envelope.specs.Filling.{to_take}
use Rattle.flow_envelope.proofs.filling.all_taken.Given as goal

abbrev pub invariant-loop-change : goal.invariant-loop-change
invariant-loop-change l = l.room.items ≡ map to_take (take l.change-index l.changes)
