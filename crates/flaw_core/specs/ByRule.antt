-- The search by a rule for flaws, visit for visit.
use Rattle.std.specs.Prelude.{◌≡◌, ℕ, zero, suc, ◌⊎◌, Bool, false, List, Option, Some, None, MatchBool}
use Rattle.model_core.specs.declared.decision.Decision.{Decision}
use Rattle.model_core.specs.declared.model.Model.{Model}
use Rattle.model_core.specs.State.{State}
use Rattle.plan_defs.specs.Closure.{IsLeast, IsCollapsed}
use Rattle.law_search.specs.Search.{SearchOutcome, Finds, Fails, Stops, VisitsEach}
use Rattle.flaw_core.specs.declared.flaw.Flaw.{Flaw}
use Rattle.flaw_core.specs.Rules.{LeavesOut}

-- What the rule finds first in a state of some decisions, and what can be decided of it where no more tokens than a bound may be
-- active.
module _ (First : Model → List Decision → State → Option Flaw → Type 0)
    (Choices : Model → List Decision → State → ℕ → Flaw → List Decision → Type 0) (model : Model) (bound : ℕ) where
  -- the rule finds a flaw, and its choices are visited
  pub record ReadsFlaw (Visit : ℕ → List Decision → SearchOutcome → Type 0) (decisions : List Decision)
      (state : State) (units : ℕ) (outcome : SearchOutcome) : Type 0 where
    pub flaw : Flaw
    pub is_first : First model decisions state (Some flaw)
    pub choices : List Decision
    pub are : Choices model decisions state bound flaw choices
    pub out : Bool
    pub tells : MatchBool out (LeavesOut model decisions bound flaw) (LeavesOut model decisions bound flaw → ⊥)
    pub visits : VisitsEach Visit decisions choices units out outcome

  -- it finds nothing in the least state of the list, or such a flaw
  pub record ReadsState (Visit : ℕ → List Decision → SearchOutcome → Type 0) (decisions : List Decision)
      (units : ℕ) (outcome : SearchOutcome) : Type 0 where
    pub state : State
    pub least : IsLeast model decisions state
    pub reads :
        (First model decisions state None × (outcome ≡ record { ending = Finds decisions; left = units; left_out = false }))
        ⊎ ReadsFlaw Visit decisions state units outcome

  -- A visit takes a unit. A list that collapses fails, one in whose least state the rule finds nothing is found, and else the
  -- choices of what it finds are visited.
  abbrev pub IsVisitBy : ℕ → ℕ → List Decision → SearchOutcome → Type 0
  IsVisitBy depth zero decisions outcome = outcome ≡ record { ending = Stops; left = 0; left_out = false }
  IsVisitBy zero (suc units) decisions outcome = ⊥
  IsVisitBy (suc depth) (suc units) decisions outcome =
      (IsCollapsed model decisions × (outcome ≡ record { ending = Fails; left = units; left_out = false }))
      ⊎ ReadsState (IsVisitBy depth) decisions units outcome

  -- The search from a list with so many units. Each visit takes one, so none is deeper than there are units.
  abbrev pub SearchesBy : ℕ → List Decision → SearchOutcome → Type 0
  SearchesBy units decisions outcome = IsVisitBy units units decisions outcome
