use Rattle.std.proofs.Common.{take}
use Rattle.db_refusals.specs.Seeing.{seen_state}
use Rattle.db_edges.specs.Adding.{AddsEdges}
use Rattle.db_edges.specs.Edges.{AppendsEach}
use Rattle.db_edges.specs.Whole.{HasTokenEdges}
use Rattle.db_edges.proofs.whole.blocks_hold.Given as goal

abbrev pub invariant-loop-place : goal.invariant-loop-place
invariant-loop-place l =
    AddsEdges (AppendsEach (HasTokenEdges l.sort l.model l.decisions (seen_state l.store)) (take l.place (seen_state l.store).tokens)) l.fn.edges.items l.edges.items
