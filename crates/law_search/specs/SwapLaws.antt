-- Which tokens of a plan may change places, and what is proved of it.
use Rattle.std.specs.Prelude.{◌≡◌, ◌≢◌, ◌↔◌, ℕ, ℤ, false, ⊤, List, [], ◌∷◌, ◌++◌, All, AllPairs, Contains}
use Rattle.std.specs.List.{sum_by}
use Rattle.eu_name.specs.declared.name.Step.{Step}
use Rattle.eu_name.specs.declared.name.TokenName.{TokenName}
use Rattle.eu_name.specs.declared.name.VarName.{VarName}
use Rattle.eu_name.specs.declared.name.VarName.TheVariants as variables
use Rattle.model_core.specs.declared.decision.ConArg.{ConArg}
use Rattle.model_core.specs.declared.decision.ConArg.TheVariants.{Var, Value}
use Rattle.model_core.specs.declared.decision.Decision.{Decision}
use Rattle.model_core.specs.declared.decision.Decision.TheVariants.{Specify, Activate, Merge, Reject, Order, Constrain, Relate}
use Rattle.model_core.specs.declared.model.Model.{Model}
use Rattle.model_core.specs.Decided.{IsActivated, IsActive, IsDecided}
use Rattle.model_core.specs.State.{State}
use Rattle.plan_defs.specs.declared.plan.Line.{Line}
use Rattle.plan_defs.specs.declared.plan.Line.TheVariants as lines
use Rattle.plan_defs.specs.declared.plan.Plan.{Plan}
use Rattle.plan_defs.specs.Broken.{AgreesWith}
use Rattle.plan_defs.specs.Closure.{IsLeast}
use Rattle.plan_defs.specs.Flaws.{Undecided, IsFlaw}
use Rattle.plan_defs.specs.Plans.{IsPlanOf, GivesValue, order_name}
use Rattle.plan_defs.specs.Settling.{IsSettled}
use Rattle.plan_defs.specs.Support.{front_token}
use Rattle.plan_defs.specs.Terms.{BelongsTo}
use Rattle.plan_defs.specs.Valid.{IsValid}
use Rattle.law_search.specs.Swapping.{IsSwap, token_under, swapped_name}
use Rattle.law_search.specs.Under.{IsVariableUnder, IsLineUnder, NamesUnder}

-- ---- which tokens may change places

-- the decisions activate each token above this one
abbrev pub StandsUnderActive : List Decision → TokenName → Type 0
StandsUnderActive decisions token =
    (front : List Step) (step : Step) (back : List Step)
    → token.steps ≡ front ++ step ∷ back → IsActivated decisions (front_token token front)

-- they activate each token above the variable's, and that of a local too
abbrev pub IsOfActive : List Decision → VarName → Type 0
IsOfActive decisions (variables.Global number) = ⊤
IsOfActive decisions (variables.Token token part) = StandsUnderActive decisions token
IsOfActive decisions (variables.Local token rule number) =
    IsActivated decisions token × StandsUnderActive decisions token

-- so it is with an argument that is a variable
abbrev pub IsArgumentOfActive : List Decision → ConArg → Type 0
IsArgumentOfActive decisions (Var name) = IsOfActive decisions name
IsArgumentOfActive decisions (Value value) = ⊤

-- what the decision names is there by the decisions, and active where it has to be
abbrev pub IsGrounded : Model → List Decision → Decision → Type 0
IsGrounded model decisions (Specify name value) = IsOfActive decisions name
IsGrounded model decisions (Activate token) = StandsUnderActive decisions token
IsGrounded model decisions (Merge token target) =
    StandsUnderActive decisions token × (StandsUnderActive decisions target × IsActive model decisions target)
IsGrounded model decisions (Reject token) = StandsUnderActive decisions token
IsGrounded model decisions (Order one other) =
    (StandsUnderActive decisions one × IsActive model decisions one)
    × (StandsUnderActive decisions other × IsActive model decisions other)
IsGrounded model decisions (Constrain kind arguments) = All (IsArgumentOfActive decisions) arguments
IsGrounded model decisions (Relate relation one other) = StandsUnderActive decisions one × StandsUnderActive decisions other

-- The decisions leave open what becomes of the one token, and don't make the other one active. A valid plan that agrees with
-- them says that the one is the other.
pub record MayChangePlaces (model : Model) (decisions : List Decision) (plan : Plan) (one other : TokenName) : Type 0 where
  pub is_plan : IsPlanOf model plan
  pub valid : IsValid model plan
  pub agrees : AgreesWith model plan decisions
  pub grounded : (decision : Decision) → Contains decisions decision → IsGrounded model decisions decision
  pub under : StandsUnderActive decisions one
  pub undecided : IsDecided model decisions one → ⊥
  pub inactive : IsActive model decisions other → ⊥
  pub merged : Contains plan.lines (lines.Merged one other)

-- ---- laws

-- the line is about the token
abbrev pub IsLineAbout : Line → TokenName → Type 0
IsLineAbout (lines.Token token fact values) owner = owner ≡ token
IsLineAbout (lines.Merged token target) owner = owner ≡ token
IsLineAbout (lines.Rejected token) owner = owner ≡ token
IsLineAbout (lines.Local name value) owner = BelongsTo name owner

-- The other token takes place, and the one doesn't stand under it. Nothing of the plan stands under the one.
pub record StandApart (plan : Plan) (one other : TokenName) : Type 0 where
  pub takes : (values : List ℤ) × Contains plan.lines (lines.Token other false values)
  pub apart : (steps : List Step) → one ≡ token_under other steps → ⊥
  pub none : (line : Line) (step : Step) (steps : List Step)
      → Contains plan.lines line → IsLineAbout line (token_under one (step ∷ steps)) → ⊥

-- how many tokens take place by the line
abbrev pub tokens_of_line : Line → ℕ
tokens_of_line (lines.Token token fact values) = 1
tokens_of_line (lines.Merged token target) = 0
tokens_of_line (lines.Rejected token) = 0
tokens_of_line (lines.Local name value) = 0

-- how many tokens take place in the plan
abbrev pub count_of_tokens : Plan → ℕ
count_of_tokens plan = sum_by tokens_of_line plan.lines

-- tokens that may change places stand apart
abbrev pub SwappedTokensStandApart : Type 0
SwappedTokensStandApart =
    (model : Model) (decisions : List Decision) (plan : Plan) (one other : TokenName)
    → MayChangePlaces model decisions plan one other → StandApart plan one other

-- there is a plan in which they have changed places
abbrev pub SwapsAreThere : Type 0
SwapsAreThere =
    (model : Model) (decisions : List Decision) (plan : Plan) (one other : TokenName)
    → MayChangePlaces model decisions plan one other → (new : Plan) × IsSwap one other plan new

-- What is left as it was where they have: what each variable is given, under the name that it has then, and how many tokens
-- take place. The new plan is valid, and agrees with the decisions and with the activation of the one.
pub record SwapsWell (model : Model) (decisions : List Decision) (old new : Plan) (one other : TokenName) : Type 0 where
  pub is_plan : IsPlanOf model new
  pub values : (name : VarName) (value : ℤ) → GivesValue old name value → GivesValue new (swapped_name one other name) value
  pub count : count_of_tokens new ≡ count_of_tokens old
  pub valid : IsValid model new
  pub agrees : AgreesWith model new (decisions ++ Activate one ∷ [])

abbrev pub SwapsGoWell : Type 0
SwapsGoWell =
    (model : Model) (decisions : List Decision) (old new : Plan) (one other : TokenName)
    → MayChangePlaces model decisions old one other → IsSwap one other old new
    → SwapsWell model decisions old new one other

-- ---- laws of whose places may change, and of what stands under them

-- A token of which nothing is decided, and the one that it is in such a plan, may change places, if the decisions don't make
-- that one active.
abbrev pub UndecidedTokensMayChangePlaces : Type 0
UndecidedTokensMayChangePlaces =
    (model : Model) (decisions : List Decision) (state : State) (plan : Plan) (token target : TokenName)
    → IsSettled model decisions → IsLeast model decisions state → IsFlaw model decisions state (Undecided token)
    → IsPlanOf model plan → IsValid model plan → AgreesWith model plan decisions
    → Contains plan.lines (lines.Merged token target) → (IsActive model decisions target → ⊥)
    → MayChangePlaces model decisions plan token target

-- the plan has no line under the one, of whose locals and slots the new plan has lines
abbrev pub NoLineIsUnder : Type 0
NoLineIsUnder =
    (model : Model) (decisions : List Decision) (plan : Plan) (one other : TokenName) (line : Line)
    → MayChangePlaces model decisions plan one other → Contains plan.lines line → IsLineUnder one line → ⊥

-- the decisions name nothing under the other, all of which gets another name
abbrev pub NoDecisionNamesUnder : Type 0
NoDecisionNamesUnder =
    (model : Model) (decisions : List Decision) (plan : Plan) (one other : TokenName) (decision : Decision)
    → MayChangePlaces model decisions plan one other → Contains decisions decision → NamesUnder other decision → ⊥

-- Each variable is given in the new plan what it is given in the old one and nothing else: under the name that it has then,
-- and, if it stands under neither of the two, under its own. No name has two lines.
pub record HaveSameValues (old new : Plan) (one other : TokenName) : Type 0 where
  pub renamed : (name : VarName) (value : ℤ) → GivesValue old name value ↔ GivesValue new (swapped_name one other name) value
  pub kept : (name : VarName) (value : ℤ) → (IsVariableUnder one name → ⊥) → (IsVariableUnder other name → ⊥)
      → GivesValue old name value ↔ GivesValue new name value
  pub once : AllPairs (λ line later. order_name line ≢ order_name later) new.lines

abbrev pub SwapsKeepValues : Type 0
SwapsKeepValues =
    (model : Model) (decisions : List Decision) (old new : Plan) (one other : TokenName)
    → MayChangePlaces model decisions old one other → IsSwap one other old new → HaveSameValues old new one other
