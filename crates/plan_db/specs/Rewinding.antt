-- Decisions that were taken since, and how they are taken back.
use Rattle.std.specs.Prelude.{◌≡◌, ℕ, zero, suc}
use Rattle.model_core.specs.declared.decision.Decision.{Decision}
use Rattle.model_core.specs.History.{History, accepted}
use Rattle.plan_db.specs.Database.{Database}

-- so many decisions were taken, each a step of the history
abbrev pub TakesMore : ℕ → History → History → Type 0
TakesMore zero old new = new ≡ old
TakesMore (suc count) old new =
    (before : History) × ((decision : Decision) × (TakesMore count old before × (new ≡ accepted before decision)))

-- only decisions were taken since
pub record IsTakenSince (former database : Database) : Type 0 where
  pub model : database.model ≡ former.model
  pub count : ℕ
  pub more : TakesMore count former.history database.history

-- the last decision was taken back
abbrev pub TakesLastBack : History → History → Type 0
TakesLastBack old new = (decision : Decision) × (old ≡ accepted new decision)
