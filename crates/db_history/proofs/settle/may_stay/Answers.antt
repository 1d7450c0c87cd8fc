use Rattle.db_history.proofs.Judging.{judged_goes}
use Rattle.db_history.proofs.settle.may_stay.Goals as goal

pub returns-in-Err : goal.returns-in-Err
returns-in-Err c = judged_goes c.args.model.now c.args.decisions.now c.args.decision.now c.in-Err._objection c.in-Err.ensures
