-- What the database shows is the least state of a settled list of a lawful model.
use Rattle.std.proofs.Common.{◌≡◌, List, sym, ◌∙◌, subst}
use Rattle.model_core.specs.declared.decision.Decision.{Decision}
use Rattle.model_core.specs.declared.model.Model.{Model}
use Rattle.model_core.specs.Lawful.{IsLawful}
use Rattle.plan_defs.specs.Closure.{IsLeast}
use Rattle.plan_defs.specs.Settling.{IsSettled}
use Rattle.db_refusals.specs.Seeing.{Seen, seen_state}
use Rattle.plan_defs.proofs.Histories.{standing_settled}
use Rattle.plan_db.specs.Database.{Database, IsSound}
use Rattle.tests_database.specs.Seen.{IsSeenOf}

pub lawful_of : (database : Database) (model : Model) → model ≡ database.model → IsSound database → IsLawful model
lawful_of database model is sound = subst IsLawful (sym is) sound.lawful

module _ (model : Model) (view : Seen) (p : IsSeenOf model view) where
  pub lawful_there : IsLawful model
  lawful_there = subst IsLawful p.model_is p.sound.lawful

  pub model_there : view.model ≡ model
  model_there = p.seen.model ∙ p.model_is

  pub settled_there : IsSettled model view.decisions
  settled_there =
      subst (λ (m : Model). IsSettled m view.decisions) p.model_is
      (subst (IsSettled p.held.database.model) (sym p.seen.decisions) (standing_settled p.held.database.model p.held.database.history p.sound.history))

  pub least_there : IsLeast model view.decisions (seen_state view.stored)
  least_there =
      subst (λ (m : Model). IsLeast m view.decisions (seen_state view.stored)) p.model_is
      (subst (λ (decisions : List Decision). IsLeast p.held.database.model decisions (seen_state view.stored)) (sym p.seen.decisions) p.seen.least)
