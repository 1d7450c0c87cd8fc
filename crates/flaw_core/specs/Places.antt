-- What the places of a view stand for.
use Rattle.std.specs.Prelude.{◌≡◌, List}
use Rattle.eu_name.specs.declared.name.TokenName.{TokenName}
use Rattle.eu_name.specs.declared.name.VarName.{VarName}
use Rattle.eu_name.specs.declared.name.VarName.TheVariants as names
use Rattle.model_core.specs.declared.decision.Decision.{Decision}
use Rattle.model_core.specs.State.{State}
use Rattle.model_core.specs.Views.{IsTokenAt}
use Rattle.plan_defs.specs.Flaws as named
use Rattle.plan_defs.specs.Flaws.{IsTimed, IsUntimed, IsOfRejectedToken}
use Rattle.flaw_core.specs.declared.flaw.Flaw.{Flaw}
use Rattle.flaw_core.specs.declared.flaw.Flaw.TheVariants.{Token, Value, Pair, Time}
use Rattle.flaw_core.specs.declared.flaw.VarPlace.{VarPlace}
use Rattle.flaw_core.specs.declared.flaw.VarPlace.TheVariants as places

-- the variable at the place has this name
abbrev pub IsVarAt : State → VarPlace → VarName → Type 0
IsVarAt state (places.Global number) name = name ≡ names.Global number
IsVarAt state (places.Part place part) name =
    (token : TokenName) × IsTokenAt state place token × (name ≡ names.Token token part)
IsVarAt state (places.Local place rule number) name =
    (token : TokenName) × IsTokenAt state place token × (name ≡ names.Local token rule number)

-- some variable is there
abbrev pub IsAnyAt : State → VarPlace → Type 0
IsAnyAt state at = (name : VarName) × IsVarAt state at name

-- its token, if it has one, isn't rejected
abbrev pub IsOfUnrejected : List Decision → State → VarPlace → Type 0
IsOfUnrejected decisions state at = (name : VarName) → IsVarAt state at name → IsOfRejectedToken decisions name → ⊥

-- it is a global, an object, a parameter or a local
abbrev pub IsUntimedAt : State → VarPlace → Type 0
IsUntimedAt state at = (name : VarName) → IsVarAt state at name → IsUntimed name

-- it is a start or a duration
abbrev pub IsTimedAt : State → VarPlace → Type 0
IsTimedAt state at = (name : VarName) → IsVarAt state at name → IsTimed name

-- the flaw by places is this flaw by names
abbrev pub IsFlawAt : State → Flaw → named.Flaw → Type 0
IsFlawAt state (Token place) (named.Undecided token) = IsTokenAt state place token
IsFlawAt state (Value at) (named.Undetermined name) = IsVarAt state at name
IsFlawAt state (Pair place other) (named.Unordered one behind) = IsTokenAt state place one × IsTokenAt state other behind
IsFlawAt state (Time at) (named.Untimed name) = IsVarAt state at name
IsFlawAt state found flaw = ⊥
