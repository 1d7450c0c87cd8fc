use Rattle.std.proofs.Common.{ℕ, ◌<◌}
use Rattle.eu_name.specs.declared.name.Part.TheVariants.{Param}
use Rattle.plan_inventory.specs.Bases.{IsDeclaredIn}
use Rattle.plan_inventory.proofs.bases.are_params_declared.Given as goal

abbrev pub invariant-loop-number : goal.invariant-loop-number
invariant-loop-number l = (place : ℕ) → place < l.number → IsDeclaredIn l.model l.token l.values (Param place)
