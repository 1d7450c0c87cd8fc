use Rattle.plan_db.proofs.Answering.{answers_view}
use Rattle.plan_db.specs.Stamps.{stamps_of}
use Rattle.plan_db.proofs.database.Db.view.Goals as goal

pub returns : goal.returns
returns c =
    rw (← c.self.view_is)
    (answers_view c.self.inside.model c.self.inside.log c.self.inside.behind c.if-self.false (stamps_of c.self.inside.kept) (λ view. view) c.view.result c.view.ensures)
