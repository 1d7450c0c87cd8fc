-- Time turned round: what was least is the negative of what is greatest.
use Rattle.std.proofs.Common.{ℕ, ◌<◌, ℤ, neg_ℤ, List, get_or, map, Option, Some, None, sym, ap, ◌∙◌, subst, arith}
use Rattle.std.specs.Prelude.{All}
use Rattle.std.proofs.lemmas.Int.{ints}
use Rattle.std.proofs.lemmas.List.{get_or-map, length-map}
use Rattle.std.proofs.lemmas.List.Elements.{All-map, All-weaker}
use Rattle.temporal_core.specs.declared.edges.Edge.{Edge}
use Rattle.temporal_core.specs.Network.{IsEdge}
use Rattle.temporal_core.specs.Schedule.{KeepsEdge, IsSchedule, IsLeastValue, IsGreatestValue, AreLeastValues, AreGreatestValues}
use Rattle.temporal_core.specs.Satisfied.{HasPositiveCycle}
use Rattle.temporal_core.specs.Bounds.{reversed_edge, negative_of}
use Rattle.temporal_core.proofs.Walks.{none_keeps}

pub reversed_joins : (points : ℕ) (edges : List Edge) → All (IsEdge points) edges → All (IsEdge points) (map reversed_edge edges)
reversed_joins points edges each =
    All-map (IsEdge points) reversed_edge edges
    (All-weaker (IsEdge points) (λ edge. IsEdge points (reversed_edge edge)) (λ edge joins. record { from = joins.to; to = joins.from; low = joins.low; high = joins.high }) edges each)

-- the schedule with time turned round
turned : (ℕ → ℤ) → ℕ → ℤ
turned value point = neg_ℤ (value point)

turned_schedule : (edges : List Edge) (value : ℕ → ℤ) → IsSchedule edges value → IsSchedule (map reversed_edge edges) (turned value)
unfolding turned
turned_schedule edges value schedule = record {
  origin = ap neg_ℤ schedule.origin;
  keeps = All-map (KeepsEdge (turned value)) reversed_edge edges
      (All-weaker (KeepsEdge value) (λ edge. KeepsEdge (turned value) (reversed_edge edge)) (λ edge keeps. omega (arith, ints)) edges schedule.keeps);
}

all_unmapped : (P : Edge → Type 0) (edges : List Edge) → All P (map reversed_edge edges) → All (λ edge. P (reversed_edge edge)) edges
all_unmapped P edges all k d within = subst P (get_or-map reversed_edge edges k d (reversed_edge d) within) (all k (reversed_edge d) (subst (λ n. k < n) (sym (length-map edges reversed_edge)) within))

turned_back : (edges : List Edge) (value : ℕ → ℤ) → IsSchedule (map reversed_edge edges) value → IsSchedule edges (turned value)
unfolding turned
turned_back edges value schedule = record {
  origin = ap neg_ℤ schedule.origin;
  keeps = All-weaker (λ edge. KeepsEdge value (reversed_edge edge)) (KeepsEdge (turned value)) (λ edge keeps. omega (arith, ints)) edges (all_unmapped (KeepsEdge value) edges schedule.keeps);
}

pub no_cycle_turned : (edges : List Edge) (value : ℕ → ℤ) → IsSchedule edges value → HasPositiveCycle (map reversed_edge edges) → ⊥
no_cycle_turned edges value schedule found = none_keeps (turned value) (map reversed_edge edges) (turned_schedule edges value schedule).keeps found

greatest_from_least : (edges : List Edge) (point : ℕ) (least : Option ℤ) → IsLeastValue (map reversed_edge edges) point least → IsGreatestValue edges point (negative_of least)
unfolding turned
greatest_from_least edges point (Some least) is = (
  (λ value schedule. let at_least = is.0 (turned value) (turned_schedule edges value schedule) in omega (arith, ints)),
  (turned is.1.0, turned_back edges is.1.0 is.1.1, ap neg_ℤ is.1.2),
)
greatest_from_least edges point None is = λ limit.
    let below = is (neg_ℤ limit) in
    (turned below.0, turned_back edges below.0 below.1, let low = below.2 in omega (arith, ints))

pub greatest_values : (points : ℕ) (edges : List Edge) (least : List (Option ℤ)) → AreLeastValues points (map reversed_edge edges) least → AreGreatestValues points edges (map negative_of least)
greatest_values points edges least are = record {
  count = length-map least negative_of ∙ are.count;
  each = λ point within.
      subst (IsGreatestValue edges point) (sym (get_or-map negative_of least point None None (omega (arith, are.count))))
      (greatest_from_least edges point (get_or least point None) (are.each point within));
}
