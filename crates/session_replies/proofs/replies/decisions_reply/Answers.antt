use Rattle.session_replies.specs.Lines.{IsDecisionLine}
use Rattle.session_replies.proofs.Replying.{counted_reply}
use Rattle.session_replies.proofs.replies.decisions_reply.Goals as goal

pub returns : goal.returns
returns c =
    counted_reply (IsDecisionLine c.args.model.now) c.args.decisions.now c.args.word.now c.new-out.result.items c.put_decision_lines.new.out.items c.from_vec.result c.new-out.ensures.items c.from_vec.ensures c.in_ok-put_decision_lines.ensures
