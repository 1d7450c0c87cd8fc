use Rattle.std.proofs.Common.{take}
use Rattle.db_posting.specs.Posted.{compares}
use Rattle.db_edges.specs.Adding.{AddsEdges}
use Rattle.db_edges.specs.Edges.{AppendsEach, HasClaimEdges}
use Rattle.db_edges.proofs.comparing.push_comparisons.Given as goal

abbrev pub invariant-loop-comparison : goal.invariant-loop-comparison
invariant-loop-comparison l =
    AddsEdges (AppendsEach (λ comparison. HasClaimEdges l.at.model.now l.at.decisions.now (compares l.one l.other comparison)) (take l.comparison-index l.comparisons))
    l.fn.edges.items l.edges.items
