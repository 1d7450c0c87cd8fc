-- The search for a list of decisions whose least state has no flaw, visit for visit.
use Rattle.std.specs.Prelude.{◌≡◌, ℕ, zero, suc, ◌⊎◌, Bool, true, false, ◌||◌, List, [], ◌∷◌, ◌++◌}
use Rattle.model_core.specs.declared.decision.Decision.{Decision}
use Rattle.model_core.specs.declared.model.Model.{Model}
use Rattle.model_core.specs.State.{State}
use Rattle.plan_defs.specs.Closure.{IsLeast, IsCollapsed}
use Rattle.plan_defs.specs.Flaws.{Flaw, HasFlaw}
use Rattle.law_search.specs.Choices.{IsFirstFlaw, AreChoices, IsLeftOut}

-- how the search from a list ends: with a list that it finds, or without one, or without a unit for a further visit
pub data SearchEnding : Type 0 where
  Finds : List Decision → SearchEnding
  Fails : SearchEnding
  Stops : SearchEnding

-- its ending, the units that are left, and whether an activation was left out at a visited list
pub record SearchOutcome : Type 0 where
  pub ending : SearchEnding
  pub left : ℕ
  pub left_out : Bool

-- the outcome, where an activation may have been left out before
abbrev pub also_left_out : Bool → SearchOutcome → SearchOutcome
also_left_out before outcome =
    record { ending = outcome.ending; left = outcome.left; left_out = before || outcome.left_out }

module _ (Visit : ℕ → List Decision → SearchOutcome → Type 0) (decisions : List Decision) where
  -- The choices are visited in order, each with the units that are left, up to the first that doesn't fail.
  abbrev pub VisitsEach : List Decision → ℕ → Bool → SearchOutcome → Type 0
  VisitsEach [] units out outcome = outcome ≡ record { ending = Fails; left = units; left_out = out }
  VisitsEach (choice ∷ choices) units out outcome =
      (first : SearchOutcome) × Visit units (decisions ++ choice ∷ []) first
      × (((first.ending ≡ Fails) × VisitsEach choices first.left (out || first.left_out) outcome)
      ⊎ ((first.ending ≡ Fails → ⊥) × (outcome ≡ also_left_out out first)))

-- whether an activation is left out tells so
abbrev pub TellsLeftOut : Model → List Decision → ℕ → Flaw → Bool → Type 0
TellsLeftOut model decisions bound flaw true = (state : State) → IsLeftOut model decisions state bound flaw
TellsLeftOut model decisions bound flaw false = (state : State) → IsLeftOut model decisions state bound flaw → ⊥

-- the first flaw is looked at, and its choices are visited
pub record LooksAtFlaw (model : Model) (bound : ℕ)
    (Visit : ℕ → List Decision → SearchOutcome → Type 0) (decisions : List Decision)
    (state : State) (units : ℕ) (outcome : SearchOutcome) : Type 0 where
  pub flaw : Flaw
  pub is_first : IsFirstFlaw model decisions state flaw
  pub choices : List Decision
  pub are : AreChoices model decisions state bound flaw choices
  pub out : Bool
  pub tells : TellsLeftOut model decisions bound flaw out
  pub visits : VisitsEach Visit decisions choices units out outcome

-- the least state of the list has no flaw, or its first flaw is looked at
pub record LooksAtState (model : Model) (bound : ℕ)
    (Visit : ℕ → List Decision → SearchOutcome → Type 0) (decisions : List Decision)
    (units : ℕ) (outcome : SearchOutcome) : Type 0 where
  pub state : State
  pub least : IsLeast model decisions state
  pub looks :
      ((HasFlaw model decisions state → ⊥) × (outcome ≡ record { ending = Finds decisions; left = units; left_out = false }))
      ⊎ LooksAtFlaw model bound Visit decisions state units outcome

-- A visit takes a unit. A list that collapses fails, one whose least state has no flaw is found, and else the choices of the
-- first flaw are visited.
abbrev pub IsVisitOf : Model → ℕ → ℕ → ℕ → List Decision → SearchOutcome → Type 0
IsVisitOf model bound depth zero decisions outcome = outcome ≡ record { ending = Stops; left = 0; left_out = false }
IsVisitOf model bound zero (suc units) decisions outcome = ⊥
IsVisitOf model bound (suc depth) (suc units) decisions outcome =
    (IsCollapsed model decisions × (outcome ≡ record { ending = Fails; left = units; left_out = false }))
    ⊎ LooksAtState model bound (IsVisitOf model bound depth) decisions units outcome

-- The search from a list with so many units. Each visit takes one, so none is deeper than there are units.
abbrev pub Searches : Model → ℕ → ℕ → List Decision → SearchOutcome → Type 0
Searches model bound units decisions outcome = IsVisitOf model bound units units decisions outcome
