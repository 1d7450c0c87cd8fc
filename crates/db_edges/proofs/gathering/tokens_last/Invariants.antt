use Rattle.std.proofs.Common.{take}
use Rattle.db_edges.specs.Adding.{AddsEdges}
use Rattle.db_edges.specs.Edges.{AppendsEach, HasLastingEdges}
use Rattle.db_edges.proofs.gathering.tokens_last.Given as goal

abbrev pub invariant-loop-place : goal.invariant-loop-place
invariant-loop-place g l =
    AddsEdges (AppendsEach (HasLastingEdges l.model (g.V.View.state l.view) l.decisions) (take l.place (g.V.View.state l.view).tokens)) l.fn.edges.items l.edges.items
