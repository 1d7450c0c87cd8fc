use Rattle.plan_db.proofs.Answering.{unless_let_go, refused_kept, answers_reset}
use Rattle.plan_db.proofs.database.Db.reset.Goals as goal

pub invariant_of-self : goal.invariant_of-self
invariant_of-self c = record {
  lawful = c.self.invariant.lawful;
  kept = unless_let_go c.reset-answer.new.behind c.reset-answer.new.kept c.let_go_behind.new.kept c.let_go_behind.ensures c.self.inside.model c.reset-answer.new.log c.reset-answer.ensures.kept;
}

pub returns-clause-reset : goal.returns-clause-reset
returns-clause-reset c =
    rw (← c.self.view_is)
    (answers_reset c.self.inside.model c.self.inside.log c.reset-answer.new.log c.self.inside.behind c.reset-answer.new.behind c.if-self.false c.self.inside.kept c.let_go_behind.new.kept c.args.subject.now c.reset-answer.result
    c.reset-answer.ensures.ready
    (refused_kept c.reset-answer.new.behind c.reset-answer.new.kept c.let_go_behind.new.kept c.let_go_behind.ensures c.reset-answer.result c.self.inside.kept c.reset-answer.ensures.ready c.reset-answer.ensures.same)
    c.reset-answer.ensures.reset)
