-- How the end of a search is told, and the plan that it found.
use Rattle.std.specs.Prelude.{◌≡◌, ⊤, ℕ, Bool, true, false, List, [], ◌∷◌, ◌++◌, codes}
use Rattle.std.specs.Fmt.{decimal}
use Rattle.model_core.specs.declared.decision.Decision.{Decision}
use Rattle.model_core.specs.declared.model.Model.{Model}
use Rattle.model_core.specs.History.{standing}
use Rattle.model_core.specs.State.{State}
use Rattle.plan_text.specs.PlanTexts.{IsPlanText}
use Rattle.plan_db.specs.Database.{Database, HasLeast}
use Rattle.plan_defs.specs.declared.plan.Plan.{Plan}
use Rattle.law_search.specs.SearchLaws.{IsFoundList}
use Rattle.plan_defs.specs.StatePlans.{IsStatePlan}
use Rattle.flaw_core.specs.declared.ending.SearchEnd.{SearchEnd}
use Rattle.flaw_core.specs.declared.ending.SearchEnd.TheVariants.{Found, Exhausted, Budget}

-- a line as it is printed, with its line feed
abbrev pub printed_line : List ℕ → List ℕ
printed_line text = text ++ 10 ∷ []

-- behind an exhausted search, where an activation was left out for the bound
abbrev pub bound_text : Bool → List ℕ
bound_text true = codes " bound"
bound_text false = []

-- the text of the plan of the least state that stands
abbrev pub IsStandingPlan : Database → List ℕ → Type 0
IsStandingPlan database text =
    (state : State) × (plan : Plan) × (HasLeast database state
    × IsStatePlan database.model (standing database.history) state plan × IsPlanText database.model plan text)

-- how the search ended, and behind what it found the plan
abbrev pub TellsSearch : SearchEnd → Database → List ℕ → Type 0
TellsSearch (Found visits) new reply =
    (text : List ℕ) × (IsStandingPlan new text × (reply ≡ printed_line (codes "found " ++ decimal visits) ++ text))
TellsSearch (Exhausted visits left_out) new reply =
    reply ≡ printed_line (codes "exhausted " ++ (decimal visits ++ bound_text left_out))
TellsSearch (Budget visits) new reply = reply ≡ printed_line (codes "budget " ++ decimal visits)

-- where something was found, what stands was found by a search, so its least state has no flaw
abbrev pub IsFlawlessEnd : SearchEnd → Database → Type 0
IsFlawlessEnd (Found visits) database =
    (decisions : List Decision) × IsFoundList database.model decisions (standing database.history)
IsFlawlessEnd end database = ⊤

-- the line of a search that found something, and the text of the plan of the state
abbrev pub IsFoundReply : Model → List Decision → State → ℕ → List ℕ → Type 0
IsFoundReply model decisions state visits reply =
    (plan : Plan) × (text : List ℕ) × (IsStatePlan model decisions state plan × IsPlanText model plan text
    × (reply ≡ printed_line (codes "found " ++ decimal visits) ++ text))
