-- Time edges have times, or a canonical cycle: that of the edges between the numbers of their points.
use Rattle.std.proofs.Common.{◌<◌, inl, inr, List, [], length, map, refl}
use Rattle.std.specs.Prelude.{Contains, All}
use Rattle.std.proofs.lemmas.List.Elements.{All-map}
use Rattle.eu_name.proofs.Members.{get_below}
use Rattle.law_states.proofs.Denying.{is_or_not}
use Rattle.temporal_core.specs.Schedule.{HasNoSchedule}
use Rattle.temporal_core.proofs.Members.{all_from_contains}
use Rattle.db_edges.specs.declared.edge.NamedEdge.{NamedEdge}
use Rattle.db_edges.specs.declared.edge.Point.{Point}
use Rattle.db_edges.specs.TimeCycle.{HasNoTiming}
use Rattle.conflict_core.specs.Points.{ArePoints, HavePoints}
use Rattle.conflict_core.specs.Walks.{walk_at}
use Rattle.conflict_core.proofs.Naming.{numbered_edge, timed, round_is}
use Rattle.conflict_core.proofs.Ordering.{number_in, number_stands}
use Rattle.law_cycles.specs.Existence.{EdgesHaveCycles}
use Rattle.law_cycles.proofs.Raised.{JoinsBelow}
use Rattle.law_cycles.proofs.Canonical.{canonical_cycle}
use Rattle.law_cycles.proofs.Pointed.{points_of_edges}

module _ (points : List Point) (are : ArePoints points) (edges : List NamedEdge) (have : HavePoints points edges) where
  number_below : (point : Point) → Contains points point → number_in points point < length points
  number_below point there = get_below points (number_in points point) point (number_stands points point there)

  numbers_below : All (JoinsBelow (length points)) (map (numbered_edge points are) edges)
  numbers_below =
      All-map (JoinsBelow (length points)) (numbered_edge points are) edges
      (all_from_contains (λ (edge : NamedEdge). JoinsBelow (length points) (numbered_edge points are edge)) edges
      (λ edge there. (number_below edge.from (have edge there).0, number_below edge.to (have edge there).1)))

  no_schedule : HasNoTiming edges → HasNoSchedule (map (numbered_edge points are) edges)
  no_schedule none value schedule = none (λ point. value (number_in points point)) (timed points are edges value schedule)

pub edges_have_cycles : EdgesHaveCycles
edges_have_cycles edges none = is_or_not (HasNoTiming edges) (λ which. elim which [
  | inl untimed ↦ points_of_edges edges (λ found.
      canonical_cycle (map (numbered_edge found.0 found.1.0) edges) (length found.0)
      (numbers_below found.0 found.1.0 edges found.1.1) (no_schedule found.0 found.1.0 edges found.1.1 untimed) (λ cycle.
      none (walk_at edges cycle.0, inr (untimed, round_is found.0 found.1.0 edges found.1.1 cycle.0 cycle.1))))
  | inr not ↦ not (λ time timing. none ([], inl ((time, timing), refl)))
])
