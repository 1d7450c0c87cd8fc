use Rattle.plan_db.proofs.Answering.{answers_apply}
use Rattle.plan_db.proofs.Stamping.{follow_ok, rise_stamped}
use Rattle.plan_db.proofs.database.Db.apply.Goals as goal

pub returns-clause-applied : goal.returns-clause-applied
returns-clause-applied c =
    rw (← c.self.view_is)
    (answers_apply c.self.inside.model c.self.inside.log c.apply.new.log c.self.inside.behind c.self.inside.behind c.if-self.false c.self.inside.kept c.apply.new.kept c.args.decision.now c.apply.result
    c.if-self.false c.apply.ensures.same c.apply.ensures.applied)

pub returns-clause-stamps : goal.returns-clause-stamps
returns-clause-stamps c =
    rw (← c.self.view_is) (follow_ok c.apply.result c.self.inside.kept c.apply.new.kept c.apply.ensures.stamps)

pub returns-clause-risen : goal.returns-clause-risen
returns-clause-risen c =
    rw (← c.self.view_is) (λ wanting. rise_stamped c.self.inside.kept c.apply.new.kept (c.apply.ensures.risen wanting))
