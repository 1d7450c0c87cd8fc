use Rattle.db_history.proofs.Judging.{none_speaks, one_speaks}
use Rattle.db_history.proofs.objection.object.Goals as goal

pub returns-in-None : goal.returns-in-None
returns-in-None c =
    none_speaks c.args.model.now c.args.decisions.now c.args.decision.now c.args.store.now c.is_sound.ensures c.requires.least c.in-None.ensures

pub returns-in-Some : goal.returns-in-Some
returns-in-Some c =
    one_speaks c.args.model.now c.args.decisions.now c.args.decision.now c.args.store.now c.is_sound.ensures c.requires.least c.in-Some.reason c.in-Some.ensures
