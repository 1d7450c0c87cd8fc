use Rattle.std.proofs.Common.{codes}
use Rattle.session_replies.specs.Lines.{IsEdgeLine}
use Rattle.session_replies.proofs.Lining.{counted}
use Rattle.session_replies.proofs.edges.put_edge_lines.Goals as goal

pub returns : goal.returns
returns c =
    counted (IsEdgeLine c.args.model.now) c.args.edges.now (codes "cycle") c.args.out.now.items c.put_count_line.new.out.items c.put_edges.new.out.items c.put_edges.result c.in_ok-put_count_line.ensures c.put_edges.ensures
