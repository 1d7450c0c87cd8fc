use Rattle.std.proofs.Common.{take}
use Rattle.db_edges.specs.Adding.{AddsEdges}
use Rattle.db_edges.specs.Edges.{AppendsEach, HasTimesGiven}
use Rattle.db_edges.proofs.gathering.times_are_given.Given as goal

abbrev pub invariant-loop-place : goal.invariant-loop-place
invariant-loop-place g l =
    AddsEdges (AppendsEach (HasTimesGiven l.model l.decisions) (take l.place (g.V.View.state l.view).tokens)) l.fn.edges.items l.edges.items
