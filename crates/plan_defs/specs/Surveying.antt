-- What is gathered from a state step by step.
use Rattle.std.specs.Prelude.{◌≡◌, ℕ, ◌+◌, ◌<◌, ⊤, ℤ, List, ◌++◌, Some, length, slice_get, AllPairs, Contains}
use Rattle.eu_name.specs.declared.name.Part.{Part}
use Rattle.eu_name.specs.declared.name.Part.TheVariants.{Start}
use Rattle.eu_name.specs.declared.name.TokenName.{TokenName}
use Rattle.eu_name.specs.declared.name.VarName.TheVariants as variables
use Rattle.model_core.specs.declared.decision.Decision.{Decision}
use Rattle.model_core.specs.declared.class.Pred.{Pred}
use Rattle.model_core.specs.declared.model.Model.{Model}
use Rattle.model_core.specs.declared.rule.Slot.{Slot}
use Rattle.model_core.specs.declared.view.TokenState.{TokenState}
use Rattle.model_core.specs.declared.view.TokenState.TheVariants.{Inactive, Active, Fact, Merged, Rejected}
use Rattle.model_core.specs.State.{State}
use Rattle.model_core.specs.Tokens.{HasToken}
use Rattle.model_core.specs.Views.{IsTokenAt}
use Rattle.plan_defs.specs.declared.plan.Line.{Line}
use Rattle.plan_defs.specs.declared.plan.Line.TheVariants as lines
use Rattle.plan_defs.specs.declared.plan.Plan.{Plan}
use Rattle.plan_defs.specs.Plans.{IsPlanOf, IsLineBefore, order_name, place_in_values}
use Rattle.plan_defs.specs.Terms.{BelongsTo}
use Rattle.plan_defs.specs.Flaws.{Flaw, IsFlaw, Undecided, Undetermined, Unordered, Untimed}
use Rattle.plan_defs.specs.StatePlans.{GivesOnly, IsLineIn, IsStatePlan}

-- the lines are those that are meant, in order
pub record AreMeant (Meant : Line → Type 0) (listed : List Line) : Type 0 where
  pub order : AllPairs IsLineBefore listed
  pub only : (line : Line) → Contains listed line → Meant line
  pub each : (line : Line) → Meant line → Contains listed line

-- the lines that are meant were put behind the old ones
abbrev pub PutsBehind : (Line → Type 0) → List Line → List Line → Type 0
PutsBehind Meant old new = (more : List Line) × (new ≡ old ++ more) × AreMeant Meant more

-- so it was, and none of the flaws that were looked for is one
pub record Surveys (model : Model) (decisions : List Decision) (state : State) (Meant : Line → Type 0) (Sought : Flaw → Type 0)
    (old new : List Line) : Type 0 where
  pub adds : PutsBehind Meant old new
  pub clear : (flaw : Flaw) → Sought flaw → IsFlaw model decisions state flaw → ⊥

-- so it is for a number below the count
abbrev pub UpTo : {X : Type 0} → (ℕ → X → Type 0) → ℕ → X → Type 0
UpTo Is count what = (number : ℕ) × (number < count) × Is number what

-- ---- values of parts

-- the values are those of the first so many parts of the token at the place
pub record AreFirstValues (state : State) (place count : ℕ) (values : List ℤ) : Type 0 where
  pub long : length values ≡ count
  pub are : (token : TokenName) (part : Part) (value : ℤ)
      → IsTokenAt state place token → slice_get values (place_in_values part) ≡ Some value
      → GivesOnly state (variables.Token token part) value

-- one of the first so many parts of the token at the place has no single value
pub record IsPartUnbound (state : State) (place count : ℕ) (part : Part) : Type 0 where
  pub below : place_in_values part < count
  pub none : (token : TokenName) (value : ℤ)
      → IsTokenAt state place token → GivesOnly state (variables.Token token part) value → ⊥

-- the token at the place has so many parts
abbrev pub HasPartCount : Model → State → ℕ → ℕ → Type 0
HasPartCount model state place count =
    (token : TokenName) (slot : Slot) (found : Pred)
    → IsTokenAt state place token → HasToken model token slot → slice_get model.preds slot.pred ≡ Some found
    → count ≡ 4 + length found.params

-- the problem has as many globals as there are values, and each has the value at its place
pub record AreGlobalValues (model : Model) (state : State) (values : List ℤ) : Type 0 where
  pub long : length values ≡ length model.problem.globals
  pub are : (number : ℕ) (value : ℤ)
      → slice_get values number ≡ Some value → GivesOnly state (variables.Global number) value

-- a token in this state is rejected
abbrev pub IsRejectedState : TokenState → Type 0
IsRejectedState Rejected = ⊤
IsRejectedState Active = ⊥
IsRejectedState Fact = ⊥
IsRejectedState Inactive = ⊥
IsRejectedState (Merged place) = ⊥

-- ---- lines of tokens and of locals

-- the flaw is one of the token or of a variable of it
abbrev pub IsFlawOf : TokenName → Flaw → Type 0
IsFlawOf token (Undecided other) = other ≡ token
IsFlawOf token (Undetermined name) = BelongsTo name token
IsFlawOf token (Unordered one other) = ⊥
IsFlawOf token (Untimed name) = BelongsTo name token

-- the flaw is one of the token or of a part of it
abbrev pub IsOwnFlaw : TokenName → Flaw → Type 0
IsOwnFlaw token (Undecided other) = other ≡ token
IsOwnFlaw token (Undetermined name) = (part : Part) × (name ≡ variables.Token token part)
IsOwnFlaw token (Unordered one other) = ⊥
IsOwnFlaw token (Untimed name) = (part : Part) × (name ≡ variables.Token token part)

module _ (model : Model) (decisions : List Decision) (state : State) (token : TokenName) where
  -- the line is the token's own
  abbrev pub IsOwnLine : Line → Type 0
  IsOwnLine line = IsLineIn model decisions state line × (order_name line ≡ variables.Token token Start)

  -- the line is the one of this local of the token
  abbrev pub IsLocalLine : ℕ → ℕ → Line → Type 0
  IsLocalLine rule number line =
      (value : ℤ) × GivesOnly state (variables.Local token rule number) value
      × (line ≡ lines.Local (variables.Local token rule number) value)

  -- it is that of a local of this rule
  abbrev pub IsRuleLine : ℕ → Line → Type 0
  IsRuleLine rule line = (number : ℕ) × IsLocalLine rule number line

  -- it is that of a local of any rule
  abbrev pub IsLocalsLine : Line → Type 0
  IsLocalsLine line = (rule : ℕ) × IsRuleLine rule line

  -- the flaw is that of this local
  abbrev pub IsLocalFlaw : ℕ → ℕ → Flaw → Type 0
  IsLocalFlaw rule number flaw = flaw ≡ Undetermined (variables.Local token rule number)

  -- it is that of a local of this rule
  abbrev pub IsRuleFlaw : ℕ → Flaw → Type 0
  IsRuleFlaw rule flaw = (number : ℕ) × IsLocalFlaw rule number flaw

  -- it is that of a local of any rule
  abbrev pub IsLocalsFlaw : Flaw → Type 0
  IsLocalsFlaw flaw = (rule : ℕ) × IsRuleFlaw rule flaw

  -- the line is that of the token, or of one of its locals
  abbrev pub IsLineOfToken : Line → Type 0
  IsLineOfToken line = IsLineIn model decisions state line × BelongsTo (order_name line) token

-- the line is what is said of the token at the place, and neither the token nor one of its parts is a flaw
abbrev pub IsStatedBy : Model → List Decision → State → ℕ → Line → Type 0
IsStatedBy model decisions state place line =
    (token : TokenName) → IsTokenAt state place token
    → IsOwnLine model decisions state token line
    × ((flaw : Flaw) → IsOwnFlaw token flaw → IsFlaw model decisions state flaw → ⊥)

-- the line is that of a token, or of a local of one
abbrev pub IsLineOfPlace : Model → List Decision → State → ℕ → Line → Type 0
IsLineOfPlace model decisions state place line =
    (token : TokenName) × IsTokenAt state place token × IsLineOfToken model decisions state token line

-- the flaw is one of the token at the place
abbrev pub IsFlawOfPlace : State → ℕ → Flaw → Type 0
IsFlawOfPlace state place flaw = (token : TokenName) × IsTokenAt state place token × IsFlawOf token flaw

-- the line is that of any token, or of a local of one
abbrev pub IsLineOfPlaces : Model → List Decision → State → Line → Type 0
IsLineOfPlaces model decisions state line = (place : ℕ) × IsLineOfPlace model decisions state place line

-- the flaw is one of any token
abbrev pub IsFlawOfPlaces : State → Flaw → Type 0
IsFlawOfPlaces state flaw = (place : ℕ) × IsFlawOfPlace state place flaw

-- two tokens of one timeline lack an order
abbrev pub IsUnorderedFlaw : Flaw → Type 0
IsUnorderedFlaw (Unordered one other) = ⊤
IsUnorderedFlaw flaw = ⊥

-- the plan is the state's, and the state has no flaw but that two tokens may lack an order
pub record IsOrderedPlan (model : Model) (decisions : List Decision) (state : State) (plan : Plan) : Type 0 where
  pub is_plan : IsStatePlan model decisions state plan
  pub of_model : IsPlanOf model plan
  pub clear : (flaw : Flaw) → IsFlaw model decisions state flaw → IsUnorderedFlaw flaw
