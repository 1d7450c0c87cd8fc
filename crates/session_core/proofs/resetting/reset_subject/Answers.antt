use Rattle.session_core.proofs.Stepping.{reset_ends}
use Rattle.session_core.proofs.resetting.reset_subject.Goals as goal

pub returns : goal.returns
returns c = rw c.step_of.ensures (reset_ends c.args.db.now c.reset.new.self c.args.subject c.reset.result c.reset.ensures.reset)
