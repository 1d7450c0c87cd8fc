-- What is proved of flaws, choices and the search.
use Rattle.std.specs.Prelude.{◌≡◌, ℕ, ◌≤◌, ◌⊎◌, false, List, [], ◌∷◌, ◌++◌, Contains}
use Rattle.model_core.specs.declared.decision.Decision.{Decision}
use Rattle.model_core.specs.declared.model.Model.{Model}
use Rattle.model_core.specs.Lawful.{IsLawful}
use Rattle.model_core.specs.State.{State}
use Rattle.plan_defs.specs.declared.plan.Plan.{Plan}
use Rattle.plan_defs.specs.Broken.{AgreesWith}
use Rattle.plan_defs.specs.Closure.{IsLeast}
use Rattle.plan_defs.specs.Plans.{IsPlanOf}
use Rattle.plan_defs.specs.Refusals.{IsAdmissible}
use Rattle.plan_defs.specs.Settling.{IsSettled}
use Rattle.plan_defs.specs.Valid.{IsValid}
use Rattle.plan_defs.specs.Flaws.{Flaw, HasFlaw}
use Rattle.law_search.specs.SwapLaws.{count_of_tokens}
use Rattle.law_search.specs.Choices.{IsFirstFlaw, AreChoices, IsLeftOut}
use Rattle.law_search.specs.Search.{SearchOutcome, Finds, Fails, Searches}

-- a list has one least state, and this is its first flaw, with these choices
pub record IsChoiceOf (model : Model) (decisions : List Decision) (state : State) (bound : ℕ) (flaw : Flaw)
    (choices : List Decision) : Type 0 where
  pub lawful : IsLawful model
  pub settled : IsSettled model decisions
  pub least : IsLeast model decisions state
  pub first : IsFirstFlaw model decisions state flaw
  pub are : AreChoices model decisions state bound flaw choices

-- each choice of the first flaw is admissible, where no more tokens may be active than the limit allows
abbrev pub ChoicesAreAdmissible : Type 0
ChoicesAreAdmissible =
    (model : Model) (decisions : List Decision) (state : State) (bound : ℕ) (flaw : Flaw) (choices : List Decision)
    (choice : Decision)
    → bound ≤ 512 → IsChoiceOf model decisions state bound flaw choices → Contains choices choice
    → IsAdmissible model decisions choice

-- a valid plan of the model that agrees with the decisions
pub record IsPlanFor (model : Model) (decisions : List Decision) (plan : Plan) : Type 0 where
  pub is_plan : IsPlanOf model plan
  pub valid : IsValid model plan
  pub agrees : AgreesWith model plan decisions

-- the plan can be changed into one that agrees with one of the choices too, and has as many tokens
pub record AgreesWithSome (model : Model) (decisions choices : List Decision) (plan : Plan) : Type 0 where
  pub choice : Decision
  pub chosen : Contains choices choice
  pub changed : Plan
  pub fits : IsPlanFor model (decisions ++ choice ∷ []) changed
  pub count : count_of_tokens changed ≡ count_of_tokens plan

-- the plan is within the bound, or no activation is left out
abbrev pub IsWithinBound : Model → List Decision → State → ℕ → Flaw → Plan → Type 0
IsWithinBound model decisions state bound flaw plan =
    (count_of_tokens plan ≤ bound) ⊎ (IsLeftOut model decisions state bound flaw → ⊥)

-- The choices cover: each valid plan that agrees with the decisions can be changed so.
abbrev pub ChoicesCover : Type 0
ChoicesCover =
    (model : Model) (decisions : List Decision) (state : State) (bound : ℕ) (flaw : Flaw) (choices : List Decision) (plan : Plan)
    → IsChoiceOf model decisions state bound flaw choices → IsPlanFor model decisions plan
    → IsWithinBound model decisions state bound flaw plan → AgreesWithSome model decisions choices plan

-- a list that is found is settled, begins with the decisions, and its least state has no flaw
pub record IsFoundList (model : Model) (decisions found : List Decision) : Type 0 where
  pub more : List Decision
  pub longer : found ≡ decisions ++ more
  pub settled : IsSettled model found
  pub state : State
  pub least : IsLeast model found state
  pub flawless : HasFlaw model found state → ⊥

abbrev pub FoundListsAreFlawless : Type 0
FoundListsAreFlawless =
    (model : Model) (bound units : ℕ) (decisions found : List Decision) (outcome : SearchOutcome)
    → IsLawful model → bound ≤ 512 → IsSettled model decisions
    → Searches model bound units decisions outcome → outcome.ending ≡ Finds found → IsFoundList model decisions found

-- Where the search fails, no valid plan within the bound agrees with the decisions, and where no activation was left out
-- for the bound none of any size does.
abbrev pub ExhaustedIsAProof : Type 0
ExhaustedIsAProof =
    (model : Model) (bound units : ℕ) (decisions : List Decision) (outcome : SearchOutcome) (plan : Plan)
    → IsLawful model → bound ≤ 512 → IsSettled model decisions
    → Searches model bound units decisions outcome → outcome.ending ≡ Fails
    → IsPlanFor model decisions plan → (count_of_tokens plan ≤ bound) ⊎ (outcome.left_out ≡ false) → ⊥

-- the search has one outcome
abbrev pub SearchHasOneOutcome : Type 0
SearchHasOneOutcome =
    (model : Model) (bound units : ℕ) (decisions : List Decision) (one other : SearchOutcome)
    → IsLawful model → bound ≤ 512 → IsSettled model decisions
    → Searches model bound units decisions one → Searches model bound units decisions other → one ≡ other
