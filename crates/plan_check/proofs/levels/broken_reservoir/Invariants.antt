use Rattle.std.proofs.Common.{ℕ, ◌<◌, ℤ}
use Rattle.plan_defs.specs.declared.plan.Place.TheVariants.{Instant}
use Rattle.plan_defs.specs.Valid.{KeepsReservoirs}
use Rattle.plan_check.proofs.levels.broken_reservoir.Given as goal

abbrev pub invariant-loop-number : goal.invariant-loop-number
invariant-loop-number l = (earlier : ℕ) (instant : ℤ) → earlier < l.number → KeepsReservoirs l.model l.plan (Instant earlier instant)
