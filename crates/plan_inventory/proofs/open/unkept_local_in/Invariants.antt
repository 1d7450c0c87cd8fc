use Rattle.std.proofs.Common.{ℕ, ◌<◌}
use Rattle.plan_inventory.specs.Asking.{IsLocalKept}
use Rattle.plan_inventory.proofs.open.unkept_local_in.Given as goal

abbrev pub invariant-loop-number : goal.invariant-loop-number
invariant-loop-number l = (earlier : ℕ) → earlier < l.number → IsLocalKept l.model l.plan l.token l.rule earlier
