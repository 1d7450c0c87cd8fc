-- What is known of a view that a database gives.
use Rattle.std.specs.Prelude.{◌≡◌}
use Rattle.model_core.specs.declared.model.Model.{Model}
use Rattle.db_refusals.specs.Seeing.{Seen}
use Rattle.plan_db.specs.Answers.{Held, IsSeen}
use Rattle.plan_db.specs.Database.{IsSound}

-- a database of the model shows this
pub record IsSeenOf (model : Model) (view : Seen) : Type 0 where
  pub held : Held
  pub sound : IsSound held.database
  pub model_is : held.database.model ≡ model
  pub seen : IsSeen held view
