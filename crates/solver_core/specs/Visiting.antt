-- What a visit sees, and what taking a choice comes to.
use Rattle.std.specs.Prelude.{◌≡◌, ℕ, Bool, true, false, List, [], ◌∷◌}
use Rattle.std.specs.Prelude.{◌++◌, Option, Some, None, Result, Ok, Err, MatchBool}
use Rattle.std.specs.declared.alloc.AllocError.{AllocError}
use Rattle.model_core.specs.declared.decision.Decision.{Decision}
use Rattle.model_core.specs.declared.model.Model.{Model}
use Rattle.model_core.specs.History.{accepted}
use Rattle.model_core.specs.State.{State}
use Rattle.plan_defs.specs.Closure.{IsLeast, IsCollapsed}
use Rattle.flaw_core.specs.declared.flaw.Flaw.{Flaw}
use Rattle.flaw_core.specs.Rules.{LeavesOut}
use Rattle.plan_db.specs.Database.{taken_in}
use Rattle.plan_db.specs.Answers.{Held}
use Rattle.solver_core.specs.declared.course.Branch.{Branch}
use Rattle.solver_core.specs.declared.visiting.Visited.{Visited}
use Rattle.solver_core.specs.declared.visiting.Visited.TheVariants.{Collapsed, Clear, Flawed}

module _ (First : Model → List Decision → State → Option Flaw → Type 0)
    (Choices : Model → List Decision → State → ℕ → Flaw → List Decision → Type 0) (model : Model) where
  -- this is the first flaw of the least state of the list
  abbrev pub HasFirst : List Decision → Flaw → Type 0
  HasFirst decisions flaw = (state : State) × IsLeast model decisions state × First model decisions state (Some flaw)

  -- the rule finds a flaw in the state, with choices
  pub record FindsFlaw (bound : ℕ) (decisions : List Decision) (flaw : Flaw) : Type 0 where
    pub state : State
    pub least : IsLeast model decisions state
    pub is_first : First model decisions state (Some flaw)
    pub choices : List Decision
    pub are : Choices model decisions state bound flaw choices

  -- what is seen of a list
  abbrev pub IsVisited : ℕ → List Decision → Visited → Type 0
  IsVisited bound decisions Collapsed = IsCollapsed model decisions
  IsVisited bound decisions Clear = (state : State) × IsLeast model decisions state × First model decisions state None
  IsVisited bound decisions (Flawed flaw left_out) = FindsFlaw bound decisions flaw
      × MatchBool left_out (LeavesOut model decisions bound flaw) (LeavesOut model decisions bound flaw → ⊥)

-- the choice that was found is taken, and its flaw is on the way; where none was, nothing changes
abbrev pub TakesFound : Option Decision → Branch → Held → List Branch → Result Bool AllocError → Held → List Branch → Type 0
TakesFound found branch old branches (Err fault) new others = new.database ≡ old.database
TakesFound None branch old branches (Ok taken) new others = (taken ≡ false) × (others ≡ branches) × (new ≡ old)
TakesFound (Some choice) branch old branches (Ok taken) new others = (taken ≡ true) × (others ≡ branches ++ branch ∷ [])
    × (new.database ≡ taken_in old.database.model (accepted old.database.history choice))
