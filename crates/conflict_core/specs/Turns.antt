-- Going on by decisions, and what is found out in each turn.
use Rattle.std.specs.Prelude.{◌≡◌, ◌⊎◌, ℕ, zero, suc, Bool, true, false, List, [], ◌∷◌}
use Rattle.model_core.specs.declared.decision.Decision.{Decision}
use Rattle.model_core.specs.declared.model.Model.{Model}
use Rattle.model_core.specs.History.{History, standing, accepted}
use Rattle.model_core.specs.State.{State}
use Rattle.plan_defs.specs.Closure.{IsLeast, IsCollapsed}
use Rattle.plan_defs.specs.Settling.{SettlesAfter}

-- so many decisions were taken since
abbrev pub GrownBy : ℕ → History → History → Type 0
GrownBy zero old new = new ≡ old
GrownBy (suc number) old new =
    (before : History) × (decision : Decision) × (new ≡ accepted before decision) × GrownBy number old before

-- those of the decisions were taken that are admissible after the ones that stood
pub record GoesOnBy (model : Model) (old : History) (decisions : List Decision) (new : History) : Type 0 where
  pub settles : SettlesAfter model (standing old) decisions (standing new)
  pub number : ℕ
  pub grown : GrownBy number old new

-- whether what can be kept of the decisions after these leaves a least state
abbrev pub LeavesBehind : Model → List Decision → List Decision → Bool → Type 0
LeavesBehind model kept decisions true =
    (settled : List Decision) × SettlesAfter model kept decisions settled × ((state : State) × IsLeast model settled state)
LeavesBehind model kept decisions false =
    (settled : List Decision) × SettlesAfter model kept decisions settled × IsCollapsed model settled

-- the decision is left out, since what can be kept of those behind it leaves nothing; or something, and it is taken if it may be
abbrev pub ReducesTurn : Model → List Decision → Decision → List Decision → List Decision → Type 0
ReducesTurn model kept decision behind new =
    (LeavesBehind model kept behind false × (new ≡ kept))
    ⊎ (LeavesBehind model kept behind true × SettlesAfter model kept (decision ∷ []) new)
