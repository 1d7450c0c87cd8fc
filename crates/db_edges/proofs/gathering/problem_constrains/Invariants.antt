use Rattle.std.proofs.Common.{take}
use Rattle.plan_defs.specs.Terms.{InProblem}
use Rattle.db_edges.specs.Adding.{AddsEdges}
use Rattle.db_edges.specs.Edges.{AppendsEach, HasConstraintEdges}
use Rattle.db_edges.proofs.gathering.problem_constrains.Given as goal

abbrev pub invariant-loop-item : goal.invariant-loop-item
invariant-loop-item l =
    AddsEdges (AppendsEach (HasConstraintEdges l.listed.model.now l.listed.decisions.now InProblem) (take l.item-index l.items)) l.fn.edges.items l.edges.items
