-- What a search on a database answers and leaves.
use Rattle.std.specs.Prelude.{◌≡◌, ℕ, ◌+◌, ◌≤◌, ◌⊎◌, ⊤, false, List, Option, Result, Ok, Err}
use Rattle.model_core.specs.declared.decision.Decision.{Decision}
use Rattle.model_core.specs.declared.model.Model.{Model}
use Rattle.model_core.specs.History.{standing}
use Rattle.model_core.specs.State.{State}
use Rattle.plan_defs.specs.declared.plan.Plan.{Plan}
use Rattle.law_search.specs.SwapLaws.{count_of_tokens}
use Rattle.law_search.specs.Search.{SearchOutcome, Finds, Fails, Stops}
use Rattle.law_search.specs.SearchLaws.{IsPlanFor, IsFoundList}
use Rattle.flaw_core.specs.declared.flaw.Flaw.{Flaw}
use Rattle.flaw_core.specs.ByRule.{SearchesBy}
use Rattle.plan_db.specs.Database.{Database, HasLeast, HasCollapsed}
use Rattle.plan_db.specs.Answers.{Held, StaysReady, StaysBehind, StaysSame}
use Rattle.plan_db.specs.Rewinding.{TakesMore}
use Rattle.flaw_core.specs.declared.ending.SearchEnd.{SearchEnd}
use Rattle.flaw_core.specs.declared.ending.SearchEnd.TheVariants.{Found, Exhausted, Budget}
use Rattle.solver_core.specs.declared.ending.SolveFault.{SolveFault}
use Rattle.solver_core.specs.declared.ending.SolveFault.TheVariants.{Behind, InInconsistent, Memory}

-- what the outcome of the search with so many units is told as, and what is left of the database: the list that is found, each
-- decision of which can be undone, or else what there was
abbrev pub TellsEnd : ℕ → SearchOutcome → Database → SearchEnd → Database → Type 0
TellsEnd budget outcome old (Found visits) new =
    (visits + outcome.left ≡ budget) × (outcome.ending ≡ Finds (standing new.history))
    × (new.model ≡ old.model) × ((count : ℕ) × TakesMore count old.history new.history)
TellsEnd budget outcome old (Exhausted visits left_out) new =
    (visits + outcome.left ≡ budget) × (outcome.ending ≡ Fails) × (outcome.left_out ≡ left_out) × (new ≡ old)
TellsEnd budget outcome old (Budget visits) new =
    (visits + outcome.left ≡ budget) × (outcome.ending ≡ Stops) × (visits ≡ budget) × (new ≡ old)

-- what the rule finds first in a state, and what can be decided of it
module _ (First : Model → List Decision → State → Option Flaw → Type 0)
    (Choices : Model → List Decision → State → ℕ → Flaw → List Decision → Type 0) where
  -- the search from the list that stands, under a bound and with so many units; it isn't made where that has collapsed
  abbrev pub Solves : ℕ → ℕ → Held → Result SearchEnd SolveFault → Held → Type 0
  Solves bound budget old (Err Behind) new = StaysBehind old new
  Solves bound budget old (Err InInconsistent) new = StaysSame old new × HasCollapsed old.database
  Solves bound budget old (Err Memory) new =
      StaysReady old new × ((state : State) × HasLeast old.database state) × (new.database ≡ old.database)
  Solves bound budget old (Ok end) new =
      StaysReady old new × ((state : State) × HasLeast old.database state)
      × ((outcome : SearchOutcome) × SearchesBy First Choices old.database.model bound budget (standing old.database.history) outcome
      × TellsEnd budget outcome old.database end new.database)

-- What the end proves: the list that is found has a least state without a flaw. Where the search is exhausted, no valid plan
-- within the bound agrees with the list that stood, and where no activation was left out none of any size does.
abbrev pub ProvesPlans : ℕ → Database → Result SearchEnd SolveFault → Database → Type 0
ProvesPlans bound old (Ok (Found visits)) new = IsFoundList old.model (standing old.history) (standing new.history)
ProvesPlans bound old (Ok (Exhausted visits left_out)) new =
    (plan : Plan) → IsPlanFor old.model (standing old.history) plan
    → (count_of_tokens plan ≤ bound) ⊎ (left_out ≡ false) → ⊥
ProvesPlans bound old (Ok (Budget visits)) new = ⊤
ProvesPlans bound old (Err fault) new = ⊤
