use Rattle.plan_db.proofs.Answering.{ready_keeps, keeps_ready, answers_backtrack}
use Rattle.std.proofs.lemmas.Result.{on_ok_weaker}
use Rattle.plan_db.proofs.Stamping.{follow_ok}
use Rattle.plan_db.proofs.database.Db.backtrack.Goals as goal

pub backtrack-requires : goal.backtrack-requires
backtrack-requires c =
    (c.self.inside.model, ready_keeps c.self.inside.model c.self.inside.log c.self.inside.behind c.self.inside.kept c.self.invariant c.if-self.false)

pub invariant_of-self : goal.invariant_of-self
invariant_of-self c =
    let keeps = ready_keeps c.self.inside.model c.self.inside.log c.self.inside.behind c.self.inside.kept c.self.invariant c.if-self.false in
    record {
      lawful = c.self.invariant.lawful;
      kept = keeps_ready c.self.inside.model c.backtrack.new.log c.self.inside.behind c.backtrack.new.kept (c.backtrack.ensures c.self.inside.model keeps).1;
    }

pub returns-clause-undone : goal.returns-clause-undone
returns-clause-undone c =
    let keeps = ready_keeps c.self.inside.model c.self.inside.log c.self.inside.behind c.self.inside.kept c.self.invariant c.if-self.false in
    rw (← c.self.view_is)
    (answers_backtrack c.self.inside.model c.self.inside.log c.backtrack.new.log c.self.inside.behind c.self.inside.behind c.if-self.false c.self.inside.kept c.backtrack.new.kept
    c.backtrack.result c.if-self.false (c.backtrack.ensures c.self.inside.model keeps).2 (c.backtrack.ensures c.self.inside.model keeps).0)

pub returns-clause-sound : goal.returns-clause-sound
returns-clause-sound c =
    let keeps = ready_keeps c.self.inside.model c.self.inside.log c.self.inside.behind c.self.inside.kept c.self.invariant c.if-self.false in
    record { lawful = c.self.invariant.lawful; history = (c.backtrack.ensures c.self.inside.model keeps).1.is_history }

pub returns-clause-stamps : goal.returns-clause-stamps
returns-clause-stamps c =
    let keeps = ready_keeps c.self.inside.model c.self.inside.log c.self.inside.behind c.self.inside.kept c.self.invariant c.if-self.false in
    rw (← c.self.view_is)
    (follow_ok c.backtrack.result c.self.inside.kept c.backtrack.new.kept
    (on_ok_weaker c.backtrack.result (λ follow rest. follow) (c.backtrack.ensures c.self.inside.model keeps).3))
