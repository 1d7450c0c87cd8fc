use Rattle.session_core.proofs.Stepping.{undo_ends}
use Rattle.session_core.proofs.undoing.take_back.Goals as goal

pub returns : goal.returns
returns c = rw c.step_of.ensures (undo_ends c.args.db.now c.undo.new.self c.undo.result c.undo.ensures.sound c.undo.ensures.undone)
