use Rattle.db_refusals.specs.Seeing.{seen_state}
use Rattle.db_edges.specs.Whole.{HasOpenEdges}
use Rattle.db_edges.proofs.Going.{GoneTo}
use Rattle.db_edges.proofs.walking.+walk.Given as goal

abbrev pub invariant-edges_among-loop-place : goal.invariant-edges_among-loop-place
invariant-edges_among-loop-place l =
    GoneTo (HasOpenEdges l.walk.sort l.walk.model.now l.walk.decisions.now (seen_state l.walk.store.now) l.walk.token.now) l.rule l.block.path l.entries l.place
    l.fn.edges.items l.edges.items
