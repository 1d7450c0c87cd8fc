use Rattle.db_edges.specs.Edges.{HasPostedEdges}
use Rattle.db_edges.proofs.Appending.{appends_none, appends_read, appends_all}
use Rattle.db_edges.proofs.posting.postings_hold.Goals as goal

pub loop-decision-init : goal.loop-decision-init
loop-decision-init c = appends_none (HasPostedEdges c.args.listed.model.now c.args.listed.decisions.now) c.args.listed.decisions.now c.args.edges.now.items

pub loop-decision-preserved : goal.loop-decision-preserved
loop-decision-preserved c =
    appends_read (HasPostedEdges c.args.listed.model.now c.args.listed.decisions.now) c.args.listed.decisions.now c.args.edges.now.items c.loop-decision.edges.items
    c.push_posted.new.edges.items c.loop-decision.decision-index c.decision-item.result c.loop-decision-test.true c.decision-item.is c.loop-decision.invariant c.in_ok-push_posted.ensures

pub returns : goal.returns
returns c =
    appends_all (HasPostedEdges c.args.listed.model.now c.args.listed.decisions.now) c.args.listed.decisions.now c.args.edges.now.items c.loop-decision.edges.items
    c.loop-decision.decision-index c.loop-decision-test.false c.loop-decision.invariant
