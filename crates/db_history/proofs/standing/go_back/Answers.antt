use Rattle.db_history.proofs.Returning.{marked_here, marked_there}
use Rattle.db_history.proofs.standing.go_back.Goals as goal

pub returns-clause-back : goal.returns-clause-back
returns-clause-back c = marked_there c.args.mark c.args.store.now c.back_to.new.self c.mark-now.new.self c.back_to.ensures c.mark-now.ensures.marks c.mark-now.ensures.marked

pub returns-clause-marked : goal.returns-clause-marked
returns-clause-marked c = (
  c.mark-now.result,
  c.forget_from.ensures.mark,
  marked_here c.mark-now.result c.back_to.new.self c.mark-now.new.self c.mark-now.ensures.marked c.mark-now.ensures.is,
)
