-- Time edges have one cycle.
use Rattle.std.proofs.Common.{◌≡◌, ◌⊎◌, List, [], ◌∷◌, ◌++◌, refl, sym, ap, ◌∙◌, subst, inl, inr}
use Rattle.std.specs.Prelude.{◌≢◌, Contains}
use Rattle.db_edges.specs.TimeCycle.{LeavesBy, LeadsAlong, LeadsRound, PassesOnce, IsPointBefore, BeginsFirst, IsTimeCycle}
use Rattle.conflict_core.proofs.Ordering.{point_irreflexive, point_transitive}
use Rattle.eu_name.proofs.Ordered.{contains_head, contains_later, contains_cases, contains_none, ordered_head, ordered_tail}
use Rattle.db_edges.specs.declared.edge.NamedEdge.{NamedEdge}
use Rattle.db_edges.specs.declared.edge.Point.{Point}

left_one : (kept edges one other : List NamedEdge) → LeavesBy kept edges one → LeavesBy kept edges other → one ≡ other
left_one kept [] one other p q = p ∙ sym q
left_one kept (edge ∷ edges) one other (inl p) (inl q) = left_one kept edges one other p.1 q.1
left_one kept (edge ∷ edges) one other (inl p) (inr q) = absurd (q.0 p.0)
left_one kept (edge ∷ edges) one other (inr p) (inl q) = absurd (p.0 q.0)
left_one kept (edge ∷ edges) one other (inr p) (inr q) = left_one (kept ++ edge ∷ []) edges one other p.1 q.1

-- of edges that pass each point once, one begins at a point
begins_one : (edges : List NamedEdge) → PassesOnce edges → (one other : NamedEdge) → Contains edges one → Contains edges other → one.from ≡ other.from → one ≡ other
begins_one [] once one other here there same = absurd (contains_none one here)
begins_one (edge ∷ edges) once one other here there same =
    let rest = begins_one edges (ordered_tail (λ (a b : NamedEdge). b.from ≢ a.from) edge edges once) one other in
    elim (contains_cases edge one edges here) [
      | inl p ↦ elim (contains_cases edge other edges there) [
        | inl q ↦ sym p ∙ q
        | inr q ↦ absurd (ordered_head (λ (a b : NamedEdge). b.from ≢ a.from) edge edges once other q (sym same ∙ ap (λ (e : NamedEdge). e.from) (sym p)))
      ]
      | inr p ↦ elim (contains_cases edge other edges there) [
        | inl q ↦ absurd (ordered_head (λ (a b : NamedEdge). b.from ≢ a.from) edge edges once one p (same ∙ ap (λ (e : NamedEdge). e.from) (sym q)))
        | inr q ↦ rest p q same
      ]
    ]

-- ways of edges from one point to another, of which one begins at each point, and none at the last, are one
along_one : (whole : List NamedEdge) → PassesOnce whole → (from to : Point) (one other : List NamedEdge)
    → ((edge : NamedEdge) → Contains one edge → Contains whole edge) → ((edge : NamedEdge) → Contains other edge → Contains whole edge)
    → ((edge : NamedEdge) → Contains one edge → edge.from ≡ to → ⊥) → ((edge : NamedEdge) → Contains other edge → edge.from ≡ to → ⊥)
    → LeadsAlong from one to → LeadsAlong from other to → one ≡ other
along_one whole once from to [] [] within within' none none' p q = refl
along_one whole once from to [] (next ∷ other) within within' none none' p q = absurd (none' next (contains_head next other) (q.0 ∙ p))
along_one whole once from to (edge ∷ one) [] within within' none none' p q = absurd (none edge (contains_head edge one) (p.0 ∙ q))
along_one whole once from to (edge ∷ one) (next ∷ other) within within' none none' p q =
    let heads : edge ≡ next = begins_one whole once edge next (within edge (contains_head edge one)) (within' next (contains_head next other)) (p.0 ∙ sym q.0) in
    let rest = along_one whole once edge.to to one other
    (λ e there. within e (contains_later edge e one there)) (λ e there. within' e (contains_later next e other there))
    (λ e there. none e (contains_later edge e one there)) (λ e there. none' e (contains_later next e other there))
    p.1 (subst (λ (point : Point). LeadsAlong point other to) (ap (λ (e : NamedEdge). e.to) (sym heads)) q.1) in
    λ i. heads i ∷ rest i

-- the first edge begins at no later point than any, itself too
at_first : (edge : NamedEdge) (edges : List NamedEdge) → BeginsFirst (edge ∷ edges) → (other : NamedEdge) → Contains (edge ∷ edges) other
    → (edge.from ≡ other.from) ⊎ IsPointBefore edge.from other.from
at_first edge edges first other there =
    elim (contains_cases edge other edges there) [ inl same ↦ inl (ap (λ (e : NamedEdge). e.from) same) | inr later ↦ first other later ]

-- rounds of the same edges that begin at the first point are one
round_one : (one other : List NamedEdge) → ((edge : NamedEdge) → Contains one edge → Contains other edge) → ((edge : NamedEdge) → Contains other edge → Contains one edge)
    → LeadsRound one → LeadsRound other → PassesOnce one → PassesOnce other → BeginsFirst one → BeginsFirst other → one ≡ other
round_one [] other to back leads leads' once once' first first' = absurd leads
round_one (edge ∷ one) [] to back leads leads' once once' first first' = absurd leads'
round_one (edge ∷ one) (next ∷ other) to back leads leads' once once' first first' =
    let here = back next (contains_head next other) in
    let there = to edge (contains_head edge one) in
    let points : edge.from ≡ next.from = alike (at_first edge one first next here) (at_first next other first' edge there) in
    let heads : edge ≡ next = begins_one (edge ∷ one) once edge next (contains_head edge one) here points in
    let rest = along_one (edge ∷ one) once edge.to edge.from one other
    (λ e p. contains_later edge e one p) (λ e p. back e (contains_later next e other p))
    (λ e p. ordered_head (λ (a b : NamedEdge). b.from ≢ a.from) edge one once e p)
    (λ e p same. ordered_head (λ (a b : NamedEdge). b.from ≢ a.from) next other once' e p (same ∙ points))
    leads
    (subst (λ (e : NamedEdge). LeadsAlong e.to other edge.from) (sym heads) (subst (λ (point : Point). LeadsAlong next.to other point) (sym points) leads')) in
    λ i. heads i ∷ rest i
  where
    alike : (edge.from ≡ next.from) ⊎ IsPointBefore edge.from next.from → (next.from ≡ edge.from) ⊎ IsPointBefore next.from edge.from → edge.from ≡ next.from
    alike (inl p) q = p
    alike (inr p) (inl q) = sym q
    alike (inr p) (inr q) = absurd (point_irreflexive edge.from (point_transitive edge.from next.from edge.from p q))

-- edges have one cycle
pub cycle_one : (edges one other : List NamedEdge) → IsTimeCycle edges one → IsTimeCycle edges other → one ≡ other
cycle_one edges one other (inl p) (inl q) = p.1 ∙ sym q.1
cycle_one edges one other (inl p) (inr q) = absurd (q.0 p.0.0 p.0.1)
cycle_one edges one other (inr p) (inl q) = absurd (p.0 q.0.0 q.0.1)
cycle_one edges one other (inr (none, p)) (inr (none', q)) =
    let lefts = left_one [] edges p.left q.left p.leaves q.leaves in
    round_one one other
    (λ edge there. (q.same edge).1 (subst (λ (l : List NamedEdge). Contains l edge) lefts ((p.same edge).0 there)))
    (λ edge there. (p.same edge).1 (subst (λ (l : List NamedEdge). Contains l edge) (sym lefts) ((q.same edge).0 there)))
    p.leads q.leads p.once q.once p.first q.first
