use Rattle.session_replies.specs.Lines.{IsDomainLine}
use Rattle.session_replies.proofs.Replying.{line_reply}
use Rattle.session_replies.proofs.replies.domain_reply.Goals as goal

pub returns : goal.returns
returns c =
    line_reply (IsDomainLine c.args.model.now c.args.variable.now c.args.domain.now) c.new-out.result.items c.put_domain_line.new.out.items c.from_vec.result c.new-out.ensures.items c.from_vec.ensures c.in_ok-put_domain_line.ensures
