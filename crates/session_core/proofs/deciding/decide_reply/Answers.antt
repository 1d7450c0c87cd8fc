use Rattle.script_lang.specs.Naming.{decision_command}
use Rattle.session_core.specs.Replies.{TakesAsked, RepliesStep}
use Rattle.session_core.proofs.Stepping.{step_not_full, full_answers, deciding}
use Rattle.session_core.proofs.deciding.decide_reply.Goals as goal

pub returns-then-is_full : goal.returns-then-is_full
returns-then-is_full c =
    let old = c.args.db.now.database in
    deciding old old c.args.asked.now c.refused.result
    (full_answers old (RepliesStep (TakesAsked old (decision_command c.args.asked.now))) c.refused.result c.if-is_full.ensures c.refused.ensures)

pub returns : goal.returns
returns c =
    let old = c.args.db.now.database in
    let new = c.decide-step.new.db.database in
    deciding old new c.args.asked.now c.step_reply.result
    (step_not_full old new (TakesAsked old (decision_command c.args.asked.now)) c.decide-step.result c.step_reply.result c.if-is_full.ensures c.decide-step.ensures c.step_reply.ensures)
