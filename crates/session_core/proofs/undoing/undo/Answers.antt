use Rattle.session_core.specs.Replies.{UndoesLast}
use Rattle.session_core.proofs.Stepping.{step_answers}
use Rattle.session_core.proofs.undoing.undo.Goals as goal

pub returns : goal.returns
returns c =
    step_answers c.args.db.now.database c.take_back-step.new.db.database (UndoesLast c.args.db.now.database) c.take_back-step.result c.step_reply.result
    c.take_back-step.ensures c.step_reply.ensures
