use Rattle.session_core.proofs.Decisions.{applied}
use Rattle.session_core.proofs.deciding.take_decision.Goals as goal

pub returns : goal.returns
returns c = λ command asked asks stands.
    rw c.step_of.ensures (applied c.args.db.now c.apply.new.self c.requires command c.args.decision asked asks stands c.apply.result c.apply.ensures.applied)
