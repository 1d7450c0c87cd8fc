-- The points of edges stand in a list, each once and in order.
use Rattle.std.proofs.Common.{◌≡◌, ◌⊎◌, ℕ, suc, inl, inr, List, [], ◌∷◌, ◌++◌, take, drop, refl, sym, subst, arith}
use Rattle.std.specs.Prelude.{Contains, AllPairs}
use Rattle.eu_name.proofs.Ordered.{contains_head, contains_cases, contains_none, ordered_tail, ordered_head, ordered_one}
use Rattle.law_states.specs.Undeniable.{Undeniable}
use Rattle.law_states.proofs.Denying.{is_or_not}
use Rattle.db_edges.specs.declared.edge.NamedEdge.{NamedEdge}
use Rattle.db_edges.specs.declared.edge.Point.{Point}
use Rattle.db_edges.specs.declared.edge.Point.TheVariants.{Origin}
use Rattle.db_edges.specs.TimeCycle.{IsPointBefore}
use Rattle.conflict_core.specs.Points.{ArePoints, IsPlaceOf, HavePoints, AddsPoint}
use Rattle.conflict_core.proofs.Ordering.{point_irreflexive, point_transitive, point_total, point_added, point_there, have_none}

-- ---- the place of a point

place_later : (first : Point) (points : List Point) (point : Point) → IsPointBefore first point → (place : ℕ) → IsPlaceOf points point place → IsPlaceOf (first ∷ points) point (suc place)
place_later first points point before place is = record {
  within = omega (arith, is.within);
  lower = λ other there. elim (contains_cases first other (take place points) there) [
    | inl same ↦ subst (λ (p : Point). IsPointBefore p point) same before
    | inr later ↦ is.lower other later
  ];
  upper = λ other there before_it. is.upper other there before_it;
}

place_first : (first : Point) (points : List Point) (point : Point) → AllPairs IsPointBefore (first ∷ points) → (first ≡ point) ⊎ IsPointBefore point first → IsPlaceOf (first ∷ points) point 0
place_first first points point order which = record {
  within = omega arith;
  lower = λ other there. absurd (contains_none other there);
  upper = λ other there before. elim (contains_cases first other points there) [
    | inl same ↦ not_first (subst (λ (p : Point). IsPointBefore p point) (sym same) before)
    | inr later ↦ not_first (point_transitive first other point (ordered_head IsPointBefore first points order other later) before)
  ];
}
  where
    not_first : IsPointBefore first point → ⊥
    not_first before = elim which [
      | inl same ↦ point_irreflexive point (subst (λ (p : Point). IsPointBefore p point) same before)
      | inr after ↦ point_irreflexive first (point_transitive first point first before after)
    ]

place_none : (point : Point) → IsPlaceOf [] point 0
place_none point = record {
  within = omega arith;
  lower = λ other there. absurd (contains_none other there);
  upper = λ other there before. contains_none other there;
}

place_of : (points : List Point) (point : Point) → AllPairs IsPointBefore points → (place : ℕ) × IsPlaceOf points point place
place_of [] point order = (0, place_none point)
place_of (first ∷ points) point order = elim (point_total first point) [
  | inl before ↦
      (let found = place_of points point (ordered_tail IsPointBefore first points order) in
      (suc found.0, place_later first points point before found.0 found.1))
  | inr which ↦ (0, place_first first points point order which)
]

-- ---- all points

one_more : (points : List Point) → ArePoints points → (point : Point) → Undeniable ((new : List Point) × AddsPoint points point new)
one_more points are point none = is_or_not (Contains points point) (λ which. elim which [
  | inl there ↦ none (points, point_there points points point refl are there)
  | inr missing ↦
      (let found = place_of points point are.order in
      let new = take found.0 points ++ point ∷ drop found.0 points in
      none (new, point_added points point point found.0 new are found.1 missing refl refl))
])

have_both : (edge : NamedEdge) (edges : List NamedEdge) (points one two : List Point) → HavePoints points edges → AddsPoint points edge.from one → AddsPoint one edge.to two → HavePoints two (edge ∷ edges)
have_both edge edges points one two have from to other there = elim (contains_cases edge other edges there) [
  | inl same ↦ subst (λ (e : NamedEdge). Contains two e.from × Contains two e.to) same (to.old_stay edge.from from.there, to.there)
  | inr later ↦ (
    to.old_stay other.from (from.old_stay other.from (have other later).0),
    to.old_stay other.to (from.old_stay other.to (have other later).1),
  )
]

pub points_of_edges : (edges : List NamedEdge) → Undeniable ((points : List Point) × (ArePoints points × HavePoints points edges))
points_of_edges [] none =
    none (Origin ∷ [], (record { order = ordered_one IsPointBefore Origin; origin = contains_head Origin [] }, have_none (Origin ∷ [])))
points_of_edges (edge ∷ edges) none =
    points_of_edges edges (λ rest.
    one_more rest.0 rest.1.0 edge.from (λ one.
    one_more one.0 one.1.are edge.to (λ two.
    none (two.0, (two.1.are, have_both edge edges rest.0 one.0 two.0 rest.1.1 one.1 two.1)))))
