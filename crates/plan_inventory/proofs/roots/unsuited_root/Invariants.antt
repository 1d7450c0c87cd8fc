use Rattle.std.proofs.Common.{ℕ, ◌<◌}
use Rattle.plan_inventory.specs.Breaks.{RootBecomes}
use Rattle.plan_inventory.proofs.roots.unsuited_root.Given as goal

abbrev pub invariant-loop-number : goal.invariant-loop-number
invariant-loop-number l = (earlier : ℕ) → earlier < l.number → RootBecomes l.model l.plan earlier
