use Rattle.plan_db.proofs.TakenBack.{never_kept}
use Rattle.plan_db.proofs.rewinding.take_back.Goals as goal

pub unreachable-requires : goal.unreachable-requires
unreachable-requires c = never_kept c.args.db.now c.backtrack.new.self c.in-Err._fault c.in-Err.ensures.undone c.requires.ready c.requires.accepted
