-- What two domains say of a guard on them.
use Rattle.std.specs.Prelude.{ℤ, Bool, true, false}
use Rattle.domain_core.specs.Domain.{Domain, Has}
use Rattle.model_core.specs.declared.rule.Guard.{Guard}
use Rattle.model_core.specs.declared.rule.Guard.TheVariants.{Equal, Differ}
use Rattle.model_core.specs.declared.rule.Side.{Side}
use Rattle.plan_defs.specs.Support.{Selects}

-- whether the guard asks that its terms are equal, and not that they differ
abbrev pub asks_equal : Guard → Bool
asks_equal (Equal one other) = true
asks_equal (Differ one other) = false

-- the guard opens the block on this side, whatever is chosen for its terms from these domains, each by itself
abbrev pub AlwaysSelects : Guard → Side → Domain → Domain → Type 0
AlwaysSelects guard side one other = (v w : ℤ) → Has one v → Has other w → Selects guard side v w
