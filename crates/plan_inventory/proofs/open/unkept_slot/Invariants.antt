use Rattle.std.proofs.Common.{ℕ, ◌<◌}
use Rattle.plan_inventory.specs.Asking.{IsSlotKept}
use Rattle.plan_inventory.proofs.open.unkept_slot.Given as goal

abbrev pub invariant-loop-rule : goal.invariant-loop-rule
invariant-loop-rule l = (other earlier : ℕ) → other < l.rule → IsSlotKept l.model l.plan l.token other earlier
