use Rattle.std.proofs.Common.{ℕ, ◌<◌}
use Rattle.plan_inventory.specs.Asking.{IsSlotKept}
use Rattle.plan_inventory.proofs.open.unkept_slot_in.Given as goal

abbrev pub invariant-loop-slot : goal.invariant-loop-slot
invariant-loop-slot l = (earlier : ℕ) → earlier < l.slot → IsSlotKept l.model l.plan l.token l.rule earlier
