use Rattle.std.proofs.Common.{codes}
use Rattle.session_replies.specs.Lines.{IsEdgeLine}
use Rattle.session_replies.proofs.Replying.{counted_reply}
use Rattle.session_replies.proofs.replies.cycle_reply.Goals as goal

pub returns : goal.returns
returns c =
    counted_reply (IsEdgeLine c.args.model.now) c.args.edges.now (codes "cycle") c.new-out.result.items c.put_edge_lines.new.out.items c.from_vec.result c.new-out.ensures.items c.from_vec.ensures c.in_ok-put_edge_lines.ensures
