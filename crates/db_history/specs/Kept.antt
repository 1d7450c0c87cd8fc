-- What is kept of a history: that of its standing list.
use Rattle.std.specs.Prelude.{◌≡◌, Bool, true, false, List, Result, Ok, Err}
use Rattle.model_core.specs.declared.decision.Decision.{Decision}
use Rattle.model_core.specs.declared.model.Model.{Model}
use Rattle.model_core.specs.History.{History, standing, accepted}
use Rattle.model_core.specs.State.{State}
use Rattle.plan_defs.specs.Closure.{IsLeast, IsCollapsed}
use Rattle.plan_defs.specs.History.{IsHistory}
use Rattle.plan_defs.specs.Refusals.{IsRefused, IsAdmissible}
use Rattle.db_history.specs.Standing.{Stood, KeepsList}
use Rattle.db_store.specs.Stamps.{FollowStamps}
use Rattle.db_history.specs.declared.objection.Objection.{Objection}
use Rattle.db_history.specs.declared.objection.Objection.TheVariants.{Collapsed, Refused}

-- it is a history of the model, and what is kept is that of its standing list
pub record KeepsHistory (model : Model) (history : History) (stood : Stood) : Type 0 where
  pub is_history : IsHistory model history
  pub list : KeepsList model (standing history) stood

-- the same unless what is kept is behind
pub record KeepsUnless (behind : Bool) (model : Model) (history : History) (stood : Stood) : Type 0 where
  pub is_history : IsHistory model history
  pub list : behind ≡ false → KeepsList model (standing history) stood

-- whether the decisions leave a least state
abbrev pub LeaveState : Model → List Decision → Bool → Type 0
LeaveState model decisions true = (state : State) × IsLeast model decisions state
LeaveState model decisions false = IsCollapsed model decisions

-- what is said of a further decision: it is admissible, or the list has collapsed, or it is refused for the first reason
abbrev pub IsJudged : Model → List Decision → Decision → Result (Unit {0}) Objection → Type 0
IsJudged model decisions decision (Ok done) = IsAdmissible model decisions decision
IsJudged model decisions decision (Err Collapsed) = IsCollapsed model decisions
IsJudged model decisions decision (Err (Refused reason)) = IsRefused model decisions decision reason

-- the last decision was taken back, the state of the list before it is kept, and stamps follow the domains; or the last step
-- was none that put a decision at the end, and all stays
abbrev pub WithdrawsLast : Model → History → Stood → Bool → History → Stood → Type 0
WithdrawsLast model old old_stood true new stood =
    (decision : Decision) × (old ≡ accepted new decision) × KeepsHistory model new stood
    × LeaveState model (standing new) true × FollowStamps old_stood.stored stood.stored
WithdrawsLast model old old_stood false new stood =
    (new ≡ old) × (stood ≡ old_stood)
    × ((before : History) (decision : Decision) → old ≡ accepted before decision → ⊥)
