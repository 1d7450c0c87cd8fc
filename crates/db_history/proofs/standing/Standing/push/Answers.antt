use Rattle.std.proofs.Common.{◌≡◌, ap, subst, sym}
use Rattle.db_store.specs.Stamps.{FollowStamps, StampsRise}
use Rattle.db_history.specs.Standing.{Stood}
use Rattle.db_history.specs.declared.footing.Footing.{Footing}
use Rattle.db_history.specs.declared.footing.Footing.TheVariants.{Rest, Fallen}
use Rattle.db_history.specs.declared.standing.Standing.TheInside.{Inside}
use Rattle.db_history.proofs.Returning.{on_err}
use Rattle.db_history.proofs.standing.Standing.push.Goals as goal
use Rattle.db_history.proofs.standing.Standing.push.Goals.{then-not-fit, else-not-fit}

apart : (footing : Footing) → footing ≡ Rest → footing ≡ Fallen → ⊥
apart footing rest fallen = cc

pub returns-clause-stamps : goal.returns-clause-stamps
returns-clause-stamps c = λ rest. elim c.if-not-fit.branch [
  | then-not-fit w ↦ absurd (apart c.if-not-fit.self-inside.footing rest (ap (λ (inside : Inside). inside.footing) w.self-inside-is))
  | else-not-fit w ↦
      subst (λ (inside : Inside). FollowStamps c.args.self.now.stored inside.store) (sym w.self-inside-is)
      (subst (λ (stood : Stood). FollowStamps stood.stored c.push_last_decision.new.store) c.self.view_is (c.in_ok-fit.ensures.stamps w.if-not-fit.false))
]

pub returns-in_err-fit-clause-risen : goal.returns-in_err-fit-clause-risen
returns-in_err-fit-clause-risen c =
    on_err c.from_residual.result (StampsRise c.args.self.now.stored c.push_last_decision.new.store)
    (subst (λ (stood : Stood). StampsRise stood.stored c.push_last_decision.new.store) c.self.view_is c.in_err-fit.ensures.risen)
