-- What a list of decisions makes of the tokens of a state.
use Rattle.std.specs.Prelude.{◌≡◌, ℕ, List, Some, slice_get, Contains}
use Rattle.eu_name.specs.declared.name.TokenName.{TokenName}
use Rattle.model_core.specs.declared.decision.Decision.{Decision}
use Rattle.model_core.specs.declared.decision.Decision.TheVariants.{Merge}
use Rattle.model_core.specs.declared.model.Model.{Model}
use Rattle.model_core.specs.declared.view.TokenState.{TokenState}
use Rattle.model_core.specs.declared.view.TokenState.TheVariants.{Inactive, Active, Fact, Merged, Rejected}
use Rattle.model_core.specs.Decided.{IsActivated, IsRejected, IsDecided}
use Rattle.model_core.specs.State.{State}
use Rattle.model_core.specs.Tokens.{IsFact}

-- the decisions merge the token into the one at this place of the state
abbrev pub IsMergedAt : State → List Decision → TokenName → ℕ → Type 0
IsMergedAt state decisions token place =
    (target : TokenName) × (slice_get state.tokens place ≡ Some target) × Contains decisions (Merge token target)

-- the token is in this state: it is activated, a fact, merged into the token at this place, rejected, or nothing is decided of it
abbrev pub HasTokenState : Model → State → List Decision → TokenName → TokenState → Type 0
HasTokenState model state decisions token Active = IsActivated decisions token
HasTokenState model state decisions token Fact = IsFact model token
HasTokenState model state decisions token (Merged place) = IsMergedAt state decisions token place
HasTokenState model state decisions token Rejected = IsRejected decisions token
HasTokenState model state decisions token Inactive = IsDecided model decisions token → ⊥
