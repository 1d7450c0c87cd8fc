-- The choice of a number.
use Rattle.std.specs.Prelude.{◌≡◌, ℕ, ◌+◌, List, Option, Some, None, MatchOption, length, slice_get}
use Rattle.eu_name.specs.declared.name.TokenName.{TokenName}
use Rattle.eu_name.specs.declared.name.VarName.{VarName}
use Rattle.model_core.specs.declared.decision.Decision.{Decision}
use Rattle.model_core.specs.declared.decision.Decision.TheVariants as decision
use Rattle.model_core.specs.declared.model.Model.{Model}
use Rattle.model_core.specs.State.{State}
use Rattle.model_core.specs.Views.{IsTokenAt}
use Rattle.flaw_core.specs.declared.choosing.Choice.{Choice}
use Rattle.flaw_core.specs.declared.choosing.Choice.TheVariants.{Specify, Activate, Merge, Reject, Order}
use Rattle.flaw_core.specs.declared.choosing.Target.{Target}
use Rattle.flaw_core.specs.declared.choosing.Target.TheVariants.{At, Past}
use Rattle.flaw_core.specs.Gathering.{AreAllThat, IsTarget}
use Rattle.flaw_core.specs.Places.{IsVarAt}

-- the choice by places is this decision
abbrev pub IsNamedBy : State → Choice → Decision → Type 0
IsNamedBy state (Specify at value) named = (name : VarName) × IsVarAt state at name × (named ≡ decision.Specify name value)
IsNamedBy state (Activate place) named = (token : TokenName) × IsTokenAt state place token × (named ≡ decision.Activate token)
IsNamedBy state (Merge place other) named =
    (token target : TokenName) × (IsTokenAt state place token × IsTokenAt state other target × (named ≡ decision.Merge token target))
IsNamedBy state (Reject place) named = (token : TokenName) × IsTokenAt state place token × (named ≡ decision.Reject token)
IsNamedBy state (Order place other) named =
    (one behind : TokenName) × (IsTokenAt state place one × IsTokenAt state other behind × (named ≡ decision.Order one behind))

-- what is found is what stands at the number
abbrev pub PicksChoice : State → List Decision → ℕ → Option Choice → Type 0
PicksChoice state choices number found = MatchOption found
    (slice_get choices number ≡ None)
    (λ choice. (named : Decision) × IsNamedBy state choice named × (slice_get choices number ≡ Some named))

-- the token at the place stands at the number, or the number is so much greater than any
abbrev pub TargetStandsAt : State → List TokenName → ℕ → Target → Type 0
TargetStandsAt state targets number (At place) =
    (token : TokenName) × IsTokenAt state place token × (slice_get targets number ≡ Some token)
TargetStandsAt state targets number (Past left) = number ≡ length targets + left

-- so it is among the active tokens of the predicate
abbrev pub PicksTarget : Model → List Decision → State → ℕ → ℕ → Target → Type 0
PicksTarget model decisions state pred number found =
    (targets : List TokenName) → AreAllThat (IsTarget model decisions pred) state targets → TargetStandsAt state targets number found
