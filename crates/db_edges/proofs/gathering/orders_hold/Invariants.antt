use Rattle.std.proofs.Common.{take}
use Rattle.db_edges.specs.Adding.{AddsEdges}
use Rattle.db_edges.specs.Edges.{AppendsEach, HasOrderEdges}
use Rattle.db_edges.proofs.gathering.orders_hold.Given as goal

abbrev pub invariant-loop-decision : goal.invariant-loop-decision
invariant-loop-decision l = AddsEdges (AppendsEach HasOrderEdges (take l.decision-index l.decisions)) l.fn.edges.items l.edges.items
