use Rattle.std.proofs.Common.{take}
use Rattle.db_edges.specs.Adding.{AddsEdges}
use Rattle.db_edges.specs.Edges.{AppendsEach, HasPostedEdges}
use Rattle.db_edges.proofs.posting.postings_hold.Given as goal

abbrev pub invariant-loop-decision : goal.invariant-loop-decision
invariant-loop-decision l =
    AddsEdges (AppendsEach (HasPostedEdges l.listed.model.now l.listed.decisions.now) (take l.decision-index l.listed.decisions.now)) l.fn.edges.items l.edges.items
