use Rattle.session_core.specs.Asking.{reset_command}
use Rattle.session_core.specs.Replies.{ResetsAsked, RepliesStep}
use Rattle.session_core.proofs.Stepping.{step_not_full, full_answers, resetting}
use Rattle.session_core.proofs.resetting.reset_reply.Goals as goal

pub returns-then-is_full : goal.returns-then-is_full
returns-then-is_full c =
    let old = c.args.db.now.database in
    resetting old old c.args.asked.now c.refused.result
    (full_answers old (RepliesStep (ResetsAsked old (reset_command c.args.asked.now))) c.refused.result c.if-is_full.ensures c.refused.ensures)

pub returns : goal.returns
returns c =
    let old = c.args.db.now.database in
    let new = c.reset-step.new.db.database in
    resetting old new c.args.asked.now c.step_reply.result
    (step_not_full old new (ResetsAsked old (reset_command c.args.asked.now)) c.reset-step.result c.step_reply.result c.if-is_full.ensures c.reset-step.ensures c.step_reply.ensures)
