-- Which side of a guard opens.
use Rattle.std.specs.Prelude.{◌≡◌, ◌↔◌, Bool, Option, Some, MatchOption}
use Rattle.domain_core.specs.Domain.{Domain}
use Rattle.model_core.specs.declared.model.Model.{Model}
use Rattle.model_core.specs.declared.rule.Guard.{Guard}
use Rattle.model_core.specs.declared.rule.Side.{Side}
use Rattle.plan_defs.specs.Situations.{Situation}
use Rattle.plan_defs.specs.Support.{Opens, side_when}
use Rattle.plan_defs.specs.Terms.{Context}
use Rattle.rule_engine.specs.Guards.{asks_equal, AlwaysSelects}

-- this is the truth of a guard on which all choices from the two domains agree; none, where they don't agree
abbrev pub IsTruth : Bool → Domain → Domain → Option Bool → Type 0
IsTruth equal one other found =
    (guard : Guard) → asks_equal guard ≡ equal → MatchOption found
    ((side : Side) → AlwaysSelects guard side one other → ⊥)
    (λ truth. AlwaysSelects guard (side_when truth) one other)

-- the guard opens the block on the side that is found, and no other
abbrev pub OpensOnly : Model → Situation → Context → Guard → Option Side → Type 0
OpensOnly model situation context guard found =
    (side : Side) → Opens model situation context guard side ↔ (found ≡ Some side)
