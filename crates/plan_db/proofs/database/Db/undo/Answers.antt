use Rattle.plan_db.proofs.Answering.{unless_let_go, refused_kept, answers_undo}
use Rattle.plan_db.proofs.database.Db.undo.Goals as goal

pub invariant_of-self : goal.invariant_of-self
invariant_of-self c = record {
  lawful = c.self.invariant.lawful;
  kept = unless_let_go c.undo-answer.new.behind c.undo-answer.new.kept c.let_go_behind.new.kept c.let_go_behind.ensures c.self.inside.model c.undo-answer.new.log c.undo-answer.ensures.kept;
}

pub returns-clause-undone : goal.returns-clause-undone
returns-clause-undone c =
    rw (← c.self.view_is)
    (answers_undo c.self.inside.model c.self.inside.log c.undo-answer.new.log c.self.inside.behind c.undo-answer.new.behind c.if-self.false c.self.inside.kept c.let_go_behind.new.kept c.undo-answer.result
    c.undo-answer.ensures.ready
    (refused_kept c.undo-answer.new.behind c.undo-answer.new.kept c.let_go_behind.new.kept c.let_go_behind.ensures c.undo-answer.result c.self.inside.kept c.undo-answer.ensures.ready c.undo-answer.ensures.same)
    c.undo-answer.ensures.undone)
