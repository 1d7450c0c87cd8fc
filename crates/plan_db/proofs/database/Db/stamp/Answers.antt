use Rattle.plan_db.specs.declared.fault.QueryFault.TheVariants.{Behind}
use Rattle.plan_db.specs.Stamps.{stamps_of}
use Rattle.plan_db.proofs.Answering.{ready_keeps, answers_stamp}
use Rattle.plan_db.proofs.database.Db.stamp.Goals as goal

pub returns-then-self : goal.returns-then-self
returns-then-self c = rw (← c.self.view_is) (Behind, c.if-self.true)

pub returns : goal.returns
returns c =
    let keeps = ready_keeps c.self.inside.model c.self.inside.log c.self.inside.behind c.self.inside.kept c.self.invariant c.if-self.false in
    rw (← c.self.view_is)
    (answers_stamp c.self.inside.model c.self.inside.log c.self.inside.behind c.if-self.false (stamps_of c.self.inside.kept) c.args.variable.now c.stamp.result
    (c.stamp.ensures c.self.inside.model c.self.inside.log keeps))
