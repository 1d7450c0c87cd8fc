-- Which of the two orders of two tokens on one timeline are left.
use Rattle.std.specs.Prelude.{◌≡◌}
use Rattle.domain_core.specs.Domain.{Domain, least, greatest}
use Rattle.eu_name.specs.declared.name.Part.TheVariants.{Start, End}
use Rattle.eu_name.specs.declared.name.TokenName.{TokenName}
use Rattle.eu_name.specs.declared.name.VarName.TheVariants.{Token}
use Rattle.model_core.specs.State.{State, Gives, AreInOrder}
use Rattle.plan_defs.specs.Timelines.{EndsTooLate}
use Rattle.timeline_core.specs.declared.order.Ends.{Ends}
use Rattle.timeline_core.specs.declared.order.ForcedOrder.{ForcedOrder}
use Rattle.timeline_core.specs.declared.order.ForcedOrder.TheVariants.{Open, First, Second, Neither}

-- the orders that are left, where the one token first is refused by the first fact, and the other first by the second
abbrev pub Leaves : ForcedOrder → Type 0 → Type 0 → Type 0
Leaves Open one_late other_late = (one_late → ⊥) × (other_late → ⊥)
Leaves First one_late other_late = (one_late → ⊥) × other_late
Leaves Second one_late other_late = one_late × (other_late → ⊥)
Leaves Neither one_late other_late = one_late × other_late

-- the numbers are the ends of the domains that the state gives the token's start and end
pub record AreEndsOf (state : State) (token : TokenName) (ends : Ends) : Type 0 where
  pub start : Domain
  pub end : Domain
  pub gives_start : Gives state (Token token Start) start
  pub gives_end : Gives state (Token token End) end
  pub start_lo : ends.start_lo ≡ least start
  pub start_hi : ends.start_hi ≡ greatest start
  pub end_lo : ends.end_lo ≡ least end
  pub end_hi : ends.end_hi ≡ greatest end

-- in whatever state these are the ends of two tokens, an order of the two is left exactly where the token that is first in
-- it can end before the other starts
abbrev pub LeavesInStates : ForcedOrder → Ends → Ends → Type 0
LeavesInStates order a b =
    (state : State) (one other : TokenName) → AreInOrder state → AreEndsOf state one a → AreEndsOf state other b
    → Leaves order (EndsTooLate state one other) (EndsTooLate state other one)
