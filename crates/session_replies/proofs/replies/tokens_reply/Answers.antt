use Rattle.std.proofs.Common.{codes}
use Rattle.session_replies.specs.Lines.{IsTokenLine}
use Rattle.session_replies.proofs.Replying.{counted_reply}
use Rattle.session_replies.proofs.replies.tokens_reply.Goals as goal

pub returns : goal.returns
returns g c =
    counted_reply (IsTokenLine c.args.model.now (g.V.View.state c.args.view.now) (g.V.View.decisions c.args.view.now)) (g.V.View.state c.args.view.now).tokens (codes "tokens")
    c.new-out.result.items c.put_token_lines.new.out.items c.from_vec.result c.new-out.ensures.items c.from_vec.ensures c.in_ok-put_token_lines.ensures
