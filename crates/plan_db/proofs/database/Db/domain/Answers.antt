use Rattle.plan_db.proofs.Answering.{ready_keeps, answers_domain}
use Rattle.plan_db.specs.Stamps.{stamps_of}
use Rattle.plan_db.proofs.database.Db.domain.Goals as goal

pub returns : goal.returns
returns c =
    let keeps = ready_keeps c.self.inside.model c.self.inside.log c.self.inside.behind c.self.inside.kept c.self.invariant c.if-self.false in
    rw (← c.self.view_is)
    (answers_domain c.self.inside.model c.self.inside.log c.self.inside.behind c.if-self.false (stamps_of c.self.inside.kept) c.args.variable.now (λ d. d.now) c.domain.result
    (c.domain.ensures c.self.inside.model c.self.inside.log keeps))
