use Rattle.std.proofs.Common.{ℕ, ◌<◌}
use Rattle.plan_defs.specs.declared.plan.Place.{Place}
use Rattle.plan_defs.specs.Valid.{KeepsOpen}
use Rattle.plan_inventory.specs.Asking.{IsOnLine}
use Rattle.plan_inventory.proofs.open.broken_open.Given as goal

abbrev pub invariant-loop-place : goal.invariant-loop-place
invariant-loop-place l = (earlier : ℕ) → earlier < l.place → (other : Place) → IsOnLine earlier other → KeepsOpen l.model l.plan other
