-- The plan of a state.
use Rattle.std.specs.Prelude.{◌≡◌, ◌↔◌, ℕ, ℤ, Bool, true, false, List, Some, slice_get, AllPairs, Contains}
use Rattle.domain_core.specs.Domain.{Domain, IsSingle}
use Rattle.eu_name.specs.declared.name.Part.{Part}
use Rattle.eu_name.specs.declared.name.TokenName.{TokenName}
use Rattle.eu_name.specs.declared.name.VarName.{VarName}
use Rattle.eu_name.specs.declared.name.VarName.TheVariants as variables
use Rattle.model_core.specs.declared.decision.Decision.{Decision}
use Rattle.model_core.specs.declared.decision.Decision.TheVariants.{Merge}
use Rattle.model_core.specs.declared.model.Model.{Model}
use Rattle.model_core.specs.Decided.{IsActivated, IsRejected}
use Rattle.model_core.specs.Lawful.{IsLawful}
use Rattle.model_core.specs.State.{State, Gives}
use Rattle.model_core.specs.Tokens.{IsFact}
use Rattle.plan_defs.specs.declared.plan.Line.{Line}
use Rattle.plan_defs.specs.declared.plan.Line.TheVariants as lines
use Rattle.plan_defs.specs.declared.plan.Plan.{Plan}
use Rattle.plan_defs.specs.Closure.{IsPropagatedState}
use Rattle.plan_defs.specs.Plans.{IsLineBefore, place_in_values}
use Rattle.plan_defs.specs.Settling.{IsSettled}

-- the state gives the variable this value and no other
abbrev pub GivesOnly : State → VarName → ℤ → Type 0
GivesOnly state name value = (domain : Domain) × Gives state name domain × IsSingle domain value

-- the values are those of the token's parts, each in its place
abbrev pub ArePartValues : State → TokenName → List ℤ → Type 0
ArePartValues state token values =
    (part : Part) (value : ℤ)
    → (slice_get values (place_in_values part) ≡ Some value) ↔ GivesOnly state (variables.Token token part) value

-- the token takes place: as a fact, or since it is activated
abbrev pub TakesPlaceAs : Model → List Decision → Bool → TokenName → Type 0
TakesPlaceAs model decisions true token = IsFact model token
TakesPlaceAs model decisions false token = IsActivated decisions token

module _ (model : Model) (decisions : List Decision) (state : State) where
  -- the token of the state takes place so, with these values
  pub record IsTokenLine (fact : Bool) (token : TokenName) (values : List ℤ) : Type 0 where
    pub there : Contains state.tokens token
    pub takes_place : TakesPlaceAs model decisions fact token
    pub values_are : ArePartValues state token values

  -- what the line says is what the decisions say of the token, and what the state gives
  abbrev pub IsLineIn : Line → Type 0
  IsLineIn (lines.Token token fact values) = IsTokenLine fact token values
  IsLineIn (lines.Merged token target) = Contains state.tokens token × Contains decisions (Merge token target)
  IsLineIn (lines.Rejected token) = Contains state.tokens token × IsRejected decisions token
  IsLineIn (lines.Local (variables.Local token rule number) value) =
      (IsRejected decisions token → ⊥) × GivesOnly state (variables.Local token rule number) value
  IsLineIn (lines.Local name value) = ⊥

  -- the plan has the value of each global, a line for each token and one for each local of a token that isn't rejected
  pub record IsStatePlan (plan : Plan) : Type 0 where
    pub globals : (number : ℕ) (value : ℤ)
        → (slice_get plan.globals number ≡ Some value) ↔ GivesOnly state (variables.Global number) value
    pub lines : (line : Line) → Contains plan.lines line ↔ IsLineIn line
    pub order : AllPairs IsLineBefore plan.lines

-- the model is lawful, the list of decisions settled, and the state propagated for it
pub record IsSettledState (model : Model) (decisions : List Decision) (state : State) : Type 0 where
  pub lawful : IsLawful model
  pub settled : IsSettled model decisions
  pub consistent : IsPropagatedState model decisions state
