-- Going over decisions, each of which stays where it is admissible after those that stay before it.
use Rattle.std.specs.Prelude.{◌≡◌, ℕ, Bool, false, List, ◌++◌, length, Contains}
use Rattle.model_core.specs.declared.decision.Decision.{Decision}
use Rattle.model_core.specs.declared.model.Model.{Model}
use Rattle.decision_log.specs.Taking.{kept_of}
use Rattle.plan_defs.specs.Settling.{SettlesAfter}
use Rattle.db_history.specs.Subjects.{TakesOutAt}

-- the list goes on by those of the decisions that stay, and the flags by whether each does
pub record GoesOver (model : Model) (decisions old : List Decision) (old_flags : List Bool) (new : List Decision)
    (new_flags : List Bool) : Type 0 where
  pub flags : List Bool
  pub flagged : new_flags ≡ old_flags ++ flags
  pub count : length flags ≡ length decisions
  pub kept : new ≡ old ++ kept_of flags decisions
  pub settles : SettlesAfter model old decisions new

-- all of the decisions stay, and the flags say so
pub record AllStay (decisions : List Decision) (flags : List Bool) : Type 0 where
  pub count : length flags ≡ length decisions
  pub kept : kept_of flags decisions ≡ decisions

-- the decision at the place goes, and the flags say what stays of the rest, as it is settled
pub record SettlesWithout (model : Model) (place : ℕ) (decisions settled : List Decision) (flags : List Bool) : Type 0 where
  pub out : TakesOutAt model place decisions settled
  pub count : length flags ≡ length decisions
  pub kept : kept_of flags decisions ≡ settled
  pub some : Contains flags false
