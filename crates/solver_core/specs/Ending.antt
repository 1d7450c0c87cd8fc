-- How a search ends, and what is then taken back.
use Rattle.std.specs.Prelude.{◌≡◌, ℕ, ⊤, Bool, false, List, Option, Result, Ok, Err}
use Rattle.std.specs.declared.alloc.AllocError.{AllocError}
use Rattle.model_core.specs.declared.decision.Decision.{Decision}
use Rattle.model_core.specs.declared.model.Model.{Model}
use Rattle.model_core.specs.History.{standing}
use Rattle.model_core.specs.State.{State}
use Rattle.law_search.specs.Search.{SearchOutcome, Finds, Fails, Stops}
use Rattle.flaw_core.specs.declared.flaw.Flaw.{Flaw}
use Rattle.plan_db.specs.Answers.{Held}
use Rattle.flaw_core.specs.declared.ending.SearchEnd.{SearchEnd}
use Rattle.flaw_core.specs.declared.ending.SearchEnd.TheVariants.{Found, Exhausted, Budget}
use Rattle.solver_core.specs.declared.ending.SolveFault.{SolveFault}
use Rattle.solver_core.specs.declared.ending.SolveFault.TheVariants.{Behind, InInconsistent, Memory}
use Rattle.solver_core.specs.Solving.{TellsEnd}
use Rattle.solver_core.specs.Underway.{Task, IsWholeSearch, HasEnded}

-- a list was found
abbrev pub IsFoundEnd : Result SearchEnd AllocError → Type 0
IsFoundEnd (Ok (Found visits)) = ⊤
IsFoundEnd (Ok (Exhausted visits left_out)) = ⊥
IsFoundEnd (Ok (Budget visits)) = ⊥
IsFoundEnd (Err fault) = ⊥

-- the list that is found stands, or the database is as it was when the search began
abbrev pub KeepsFound : Task → Result SearchEnd AllocError → Held → Held → Type 0
KeepsFound task (Ok (Found visits)) old new = new ≡ old
KeepsFound task (Ok (Exhausted visits left_out)) old new = (new.database ≡ task.database) × (new.behind ≡ false)
KeepsFound task (Ok (Budget visits)) old new = (new.database ≡ task.database) × (new.behind ≡ false)
KeepsFound task (Err fault) old new = (new.database ≡ task.database) × (new.behind ≡ false)

module _ (First : Model → List Decision → State → Option Flaw → Type 0)
    (Choices : Model → List Decision → State → ℕ → Flaw → List Decision → Type 0) (task : Task) where
  -- the search ended so, and all that was decided still stands
  abbrev pub EndsAs : SearchEnd → Held → Type 0
  EndsAs (Found visits) held =
      (out : Bool) × HasEnded First Choices task (Finds (standing held.database.history)) visits out held
  EndsAs (Exhausted visits left_out) held = HasEnded First Choices task Fails visits left_out held
  EndsAs (Budget visits) held = (out : Bool) × (HasEnded First Choices task Stops visits out held × (visits ≡ task.budget))

  -- it ended so, and what was decided was taken back unless a list was found
  abbrev pub RestsAs : Result SearchEnd SolveFault → Held → Type 0
  RestsAs (Ok end) held = (held.behind ≡ false)
      × ((outcome : SearchOutcome) × IsWholeSearch First Choices task outcome
      × TellsEnd task.budget outcome task.database end held.database)
  RestsAs (Err Memory) held = (held.behind ≡ false) × (held.database ≡ task.database)
  RestsAs (Err Behind) held = ⊥
  RestsAs (Err InInconsistent) held = ⊥
