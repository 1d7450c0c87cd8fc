use Rattle.std.proofs.Common.{◌+◌, ◌/◌, ◌≤◌, max, ap, ◌∙◌, subst, arith}
use Rattle.std.proofs.lemmas.Result.{err_from_is_err_and}
use Rattle.session_loop.specs.Answering.{LeavesUnanswered}
use Rattle.session_loop.specs.Lines.{cost_of, most}
use Rattle.session_loop.proofs.ReplyLemmas.{counted_le, unanswered}
use Rattle.session_loop.proofs.answering.answer_line.Goals as goal

pub returns-in_err-answer-clause-answered : goal.returns-in_err-answer-clause-answered
returns-in_err-answer-clause-answered g c = λ whole held.
    let p = err_from_is_err_and c.from_residual.result c.from_residual.ensures.1 in
    let old = c.args.responder.now in
    let new = c.answer.new.self in
    let within : c.args.count + cost_of whole ≤ most = counted_le whole c.args.count c.args.line.now.length c.cost_of.result held.1
    (c.cost_of.ensures ∙ ap (λ n. max 1 ((n + 4095) / 4096)) c.len.ensures) (omega arith) in
    let lost = subst (λ l. LeavesUnanswered g.T.Responder.answers old l new) (c.front.ensures whole held) c.in_err-answer.ensures.memory in
    rw (p.1, p.2) (unanswered g.T.Responder.answers c.args.count whole old new (g.O.Sink.written c.args.out.now)
    (λ answer. g.met.T.Responder.reads_front old whole answer new) within lost)
