use Rattle.session_replies.specs.Lines.{IsEdgeLine}
use Rattle.session_replies.proofs.Lining.{no_line, line_ends, line_more, all_lines}
use Rattle.session_replies.proofs.edges.put_edges.Goals as goal

pub loop-edge-init : goal.loop-edge-init
loop-edge-init c = no_line (IsEdgeLine c.args.model.now) c.args.edges.now c.args.out.now.items

pub loop-edge-preserved : goal.loop-edge-preserved
loop-edge-preserved c =
    line_more (IsEdgeLine c.args.model.now) c.args.edges.now c.loop-edge.edge-index c.edge-item.result c.args.out.now.items c.loop-edge.out.items c.put_line_feed.new.out.items c.loop-edge-test.true c.edge-item.is
    (line_ends (IsEdgeLine c.args.model.now c.edge-item.result) c.loop-edge.out.items c.put_edge.new.out.items c.put_line_feed.new.out.items c.in_ok-put_edge.ensures c.in_ok-put_line_feed.ensures) c.loop-edge.invariant

pub returns : goal.returns
returns c = all_lines (IsEdgeLine c.args.model.now) c.args.edges.now c.loop-edge.edge-index c.args.out.now.items c.loop-edge.out.items c.loop-edge-test.false c.loop-edge.invariant
