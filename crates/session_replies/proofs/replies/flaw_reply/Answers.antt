use Rattle.session_replies.specs.Lines.{IsFlawLine}
use Rattle.session_replies.proofs.Replying.{line_reply}
use Rattle.session_replies.proofs.replies.flaw_reply.Goals as goal

pub returns : goal.returns
returns g c = λ subject at.
    line_reply (IsFlawLine c.args.model.now subject c.args.count) c.new-out.result.items c.put_flaw_line.new.out.items c.from_vec.result c.new-out.ensures.items c.from_vec.ensures (c.in_ok-put_flaw_line.ensures subject at)
