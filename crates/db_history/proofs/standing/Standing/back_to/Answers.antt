use Rattle.std.proofs.Common.{refl, sym, subst}
use Rattle.db_store.specs.Stamps.{FollowStamps}
use Rattle.db_history.specs.Standing.{Stood, KeepsList}
use Rattle.db_history.proofs.Returning.{front_kept}
use Rattle.db_history.proofs.standing.Standing.back_to.Goals as goal

pub returns-clause-kept : goal.returns-clause-kept
returns-clause-kept c = λ model decisions kept less.
    let inside = c.self.inside in (
      refl,
      front_kept model decisions inside.store inside.marks.items inside.footing c.args.number c.return_to.new.store c.return_to.new.marks.items
          (c.return_to.ensures.stands model) (subst (KeepsList model decisions) (sym c.self.view_is) kept) less,
    )

pub returns-clause-stamps : goal.returns-clause-stamps
returns-clause-stamps c = subst (λ (stood : Stood). FollowStamps stood.stored c.return_to.new.store) c.self.view_is c.return_to.ensures.stamps
