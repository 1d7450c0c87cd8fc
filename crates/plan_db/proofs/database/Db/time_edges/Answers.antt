use Rattle.plan_db.specs.Stamps.{stamps_of}
use Rattle.plan_db.proofs.Answering.{answers_edges}
use Rattle.plan_db.proofs.database.Db.time_edges.Goals as goal

pub returns : goal.returns
returns c =
    rw (← c.self.view_is)
    (answers_edges c.self.inside.model c.self.inside.log c.self.inside.behind c.if-self.false (stamps_of c.self.inside.kept) (λ edges. edges.items) c.edges.result c.edges.ensures)
