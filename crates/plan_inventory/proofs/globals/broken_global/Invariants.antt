use Rattle.std.proofs.Common.{ℕ, ◌<◌}
use Rattle.eu_name.specs.declared.name.VarName.TheVariants.{Global}
use Rattle.plan_defs.specs.Valid.{HasDeclaredValue}
use Rattle.plan_inventory.proofs.globals.broken_global.Given as goal

abbrev pub invariant-loop-number : goal.invariant-loop-number
invariant-loop-number l = (place : ℕ) → place < l.number → HasDeclaredValue l.model l.plan (Global place)
