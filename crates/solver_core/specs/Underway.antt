-- Where a search stands: whatever is said of what is left of it, is said of the whole.
use Rattle.std.specs.Prelude.{◌≡◌, ℕ, ◌+◌, ◌<◌, ◌≤◌, Bool, true, false}
use Rattle.std.specs.Prelude.{List, [], ◌∷◌, Option, Some, drop, reverse}
use Rattle.model_core.specs.declared.decision.Decision.{Decision}
use Rattle.model_core.specs.declared.model.Model.{Model}
use Rattle.model_core.specs.History.{History, standing, accepted}
use Rattle.model_core.specs.State.{State}
use Rattle.plan_defs.specs.Closure.{IsLeast}
use Rattle.law_search.specs.Search.{SearchOutcome, SearchEnding, Finds, Fails}
use Rattle.flaw_core.specs.declared.flaw.Flaw.{Flaw}
use Rattle.flaw_core.specs.ByRule.{IsVisitBy, SearchesBy}
use Rattle.flaw_core.specs.Rest.{LeftOver, SearchesOn, VisitsFirst}
use Rattle.plan_db.specs.Database.{Database}
use Rattle.plan_db.specs.Answers.{Held}
use Rattle.plan_db.specs.Rewinding.{IsTakenSince}
use Rattle.solver_core.specs.declared.course.Branch.{Branch}
use Rattle.solver_core.specs.declared.course.Course.{Course}
use Rattle.solver_core.specs.declared.advancing.Advanced.{Advanced}
use Rattle.solver_core.specs.declared.advancing.Advanced.TheVariants as advanced

-- a search from what a database holds, under a bound and with so many units
pub record Task : Type 0 where
  pub database : Database
  pub bound : ℕ
  pub budget : ℕ

-- the database is ready, and of the model that is searched
pub record IsReadyFor (task : Task) (held : Held) : Type 0 where
  pub ready : held.behind ≡ false
  pub model : held.database.model ≡ task.database.model

-- the database is ready, and only decisions were taken since the search began
pub record IsAbove (task : Task) (held : Held) : Type 0 where
  pub ready : held.behind ≡ false
  pub since : IsTakenSince task.database held.database

-- what the rule finds first in a state, and what can be decided of it
module _ (First : Model → List Decision → State → Option Flaw → Type 0)
    (Choices : Model → List Decision → State → ℕ → Flaw → List Decision → Type 0) (task : Task) where
  -- the flaw is the first of the list, and the choices from the next one on are left
  pub record IsOpenAt (decisions : List Decision) (branch : Branch) (left : LeftOver) : Type 0 where
    pub state : State
    pub least : IsLeast task.database.model decisions state
    pub is_first : First task.database.model decisions state (Some branch.flaw)
    pub choices : List Decision
    pub are : Choices task.database.model decisions state task.bound branch.flaw choices
    pub left_are : left ≡ record { decisions = decisions; choices = drop branch.next choices }

  -- these flaws are open on the way to the history, the latest first, and this is left of them; fewer choices than so many of
  -- any were taken
  abbrev pub LeadsTo : ℕ → List Branch → History → List LeftOver → Type 0
  LeadsTo most [] history lefts = (history ≡ task.database.history) × (lefts ≡ [])
  LeadsTo most (branch ∷ branches) history [] = ⊥
  LeadsTo most (branch ∷ branches) history (left ∷ lefts) =
      (former : History) × ((choice : Decision) × ((history ≡ accepted former choice) × (branch.next < most)
      × IsOpenAt (standing former) branch left × LeadsTo most branches former lefts))

  -- what the search comes to
  abbrev pub IsWholeSearch : SearchOutcome → Type 0
  IsWholeSearch outcome = SearchesBy First Choices task.database.model task.bound task.budget (standing task.database.history) outcome

  -- a visit by the rule
  abbrev pub VisitsByRule : ℕ → ℕ → List Decision → SearchOutcome → Type 0
  VisitsByRule = IsVisitBy First Choices task.database.model task.bound

  -- The search stands at a list, and the flaws on the way to it are open. Whatever comes of the rest, of such a depth, with what
  -- is left of them and of the units, comes of the whole.
  pub record IsSearching (Rest : ℕ → List LeftOver → ℕ → SearchOutcome → Type 0) (branches : List Branch)
      (most visits : ℕ) (held : Held) : Type 0 where
    pub on : IsReadyFor task held
    pub lefts : List LeftOver
    pub leads : LeadsTo most branches held.database.history lefts
    pub units : ℕ
    pub spent : visits + units ≡ task.budget
    pub depth : ℕ
    pub enough : units ≤ depth
    pub says : (outcome : SearchOutcome) → Rest depth lefts units outcome → IsWholeSearch outcome

  -- the list that stands is to be visited
  abbrev pub IsToVisit : List Branch → ℕ → Bool → Held → Type 0
  IsToVisit branches visits out held = IsSearching
      (λ depth lefts units outcome. VisitsFirst VisitsByRule depth (standing held.database.history) lefts units out outcome)
      branches (visits + 1) visits held

  -- it has failed
  abbrev pub HasFailed : List Branch → ℕ → Bool → Held → Type 0
  HasFailed branches visits out held =
      IsSearching (λ depth lefts units outcome. SearchesOn VisitsByRule depth lefts units out outcome) branches visits visits held

  -- this flaw of it is open, and the next of its choices is to be taken
  pub record IsLooking (branch : Branch) (branches : List Branch) (visits : ℕ) (out : Bool) (held : Held) : Type 0 where
    pub left : LeftOver
    pub fewer : branch.next < visits
    pub is_open : IsOpenAt (standing held.database.history) branch left
    pub rest : IsSearching
        (λ depth lefts units outcome. SearchesOn VisitsByRule depth (left ∷ lefts) units out outcome)
        branches visits visits held

  -- the whole search ends so
  pub record HasEnded (ending : SearchEnding) (visits : ℕ) (out : Bool) (held : Held) : Type 0 where
    pub above : IsAbove task held
    pub units : ℕ
    pub spent : visits + units ≡ task.budget
    pub whole : IsWholeSearch (record { ending = ending; left = units; left_out = out })

  -- the search came so far
  abbrev pub ComesTo : Course → Held → Type 0
  ComesTo course held = IsToVisit (reverse course.branches.items) course.visits course.left_out held

  -- the search has advanced: it has found the list that stands, is exhausted, or is to visit a further list
  abbrev pub HasAdvanced : Advanced → Course → Held → Type 0
  HasAdvanced advanced.Found course held =
      HasEnded (Finds (standing held.database.history)) course.visits course.left_out held
  HasAdvanced advanced.Exhausted course held = HasEnded Fails course.visits course.left_out held
  HasAdvanced advanced.Taken course held = ComesTo course held

  -- a choice of the flaw was taken, or none was left, and the list that stands has failed
  abbrev pub TakesNext : Bool → Course → Held → Type 0
  TakesNext true course held = ComesTo course held
  TakesNext false course held = HasFailed (reverse course.branches.items) course.visits course.left_out held
