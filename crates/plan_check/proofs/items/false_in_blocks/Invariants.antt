use Rattle.std.proofs.Common.{ℕ, ◌<◌}
use Rattle.plan_defs.specs.declared.plan.Place.{Place}
use Rattle.plan_defs.specs.Valid.{KeepsItems}
use Rattle.plan_inventory.specs.Asking.{IsOnLine}
use Rattle.plan_check.proofs.items.false_in_blocks.Given as goal

abbrev pub invariant-loop-place : goal.invariant-loop-place
invariant-loop-place l = (earlier : ℕ) → earlier < l.place → (other : Place) → IsOnLine earlier other → KeepsItems l.model l.plan other
