-- Putting edges in from the last one down.
use Rattle.std.proofs.Common.{◌≡◌, ℕ, ◌+◌, ◌<◌, ◌≤◌, ℤ, ◌⊎◌, inl, inr, ⊎_elim, List, [], ◌∷◌, ◌++◌, length, get_or, take, drop, Some, refl, sym, ap, ◌∙◌, subst, arith}
use Rattle.std.specs.Prelude.{Contains, All, slice_get, option_to_list}
use Rattle.std.proofs.lemmas.List.{append_assoc, take_more, take-append-drop}
use Rattle.std.proofs.lemmas.Bool.{cases_eq}
use Rattle.std.proofs.lemmas.Option.{slice_get-get_or}
use Rattle.std.proofs.lemmas.List.Elements.{All-contains, Contains-append_left, Contains-append_right, Contains-append_cases, Contains-push_cases}
use Rattle.temporal_core.specs.declared.edges.Edge.{Edge}
use Rattle.temporal_core.specs.declared.satisfied.Satisfied.{Satisfied}
use Rattle.temporal_core.specs.Schedule.{KeepsEdge, HasNoSchedule, IsSchedule}
use Rattle.temporal_core.specs.Cycle.{edges_at}
use Rattle.temporal_core.specs.Satisfied.{IsSatisfiedGraph, HasPositiveCycle}
use Rattle.temporal_core.specs.Canonical.{places_from, IsNextNeeded}
use Rattle.eu_name.proofs.Members.{get_same}
use Rattle.temporal_core.proofs.Members.{all_from_contains}
use Rattle.temporal_core.proofs.Walks.{no_schedule, Contains-head}
use Rattle.temporal_core.proofs.Cycles.{edges_at-cons}
use Rattle.temporal_core.proofs.Satisfying.{HasPositiveCycle-within}
use Rattle.temporal_core.proofs.Leaving.{schedule_from_satisfied, edges_at-contains, edges_at-stands, edges_at-within, Contains-places_from, places_from_bounds, kept_from_later}

pub edges_at-append : (edges : List Edge) (one other : List ℕ) → edges_at edges (one ++ other) ≡ edges_at edges one ++ edges_at edges other
edges_at-append edges [] other = refl
edges_at-append edges (place ∷ one) other =
    ap (λ rest. option_to_list (slice_get edges place) ++ rest) (edges_at-append edges one other) ∙ sym (append_assoc (option_to_list (slice_get edges place)) (edges_at edges one) (edges_at edges other))

pub edges_at-push : (edges : List Edge) (places : List ℕ) (place : ℕ) (d : Edge) → place < length edges → edges_at edges (places ++ place ∷ []) ≡ edges_at edges places ++ get_or edges place d ∷ []
edges_at-push edges places place d within = edges_at-append edges places (place ∷ []) ∙ ap (λ rest. edges_at edges places ++ rest) (edges_at-cons edges place [] d within)

pub edges_at-take : (edges : List Edge) (places : List ℕ) (i : ℕ) (d : Edge) → i < length places → get_or places i 0 < length edges
    → edges_at edges (take (i + 1) places) ≡ edges_at edges (take i places) ++ get_or edges (get_or places i 0) d ∷ []
edges_at-take edges places i d inside within = ap (edges_at edges) (take_more places i 0 inside) ∙ edges_at-push edges (take i places) (get_or places i 0) d within

-- the values keep these edges, in some order
pub record IsSatisfiedWith (points : ℕ) (edges : List Edge) (satisfied : Satisfied) : Type 0 where
  pub satisfied_own : IsSatisfiedGraph points satisfied.graph.edges.items satisfied
  pub all : (edge : Edge) → Contains edges edge → Contains satisfied.graph.edges.items edge
  pub only : (edge : Edge) → Contains satisfied.graph.edges.items edge → Contains edges edge

-- a schedule is one for fewer edges too
pub schedule_for : (edges fewer : List Edge) (value : ℕ → ℤ) → ((edge : Edge) → Contains fewer edge → Contains edges edge) → IsSchedule edges value → IsSchedule fewer value
schedule_for edges fewer value within schedule = record {
  origin = schedule.origin;
  keeps = all_from_contains (KeepsEdge value) fewer (λ edge among. All-contains (KeepsEdge value) edges edge schedule.keeps (within edge among));
}

pub satisfied_own_edges : (points : ℕ) (edges : List Edge) (satisfied : Satisfied) → IsSatisfiedGraph points edges satisfied → IsSatisfiedGraph points satisfied.graph.edges.items satisfied
satisfied_own_edges points edges satisfied is = subst (λ list. IsSatisfiedGraph points list satisfied) (sym is.graph.list) is

module _ (points : ℕ) (edges : List Edge) (kept : List ℕ) where
  module _ (place : ℕ) (within : place < length edges) (d : Edge) where
    -- the edge at a place and those after it
    with_next : (edge : Edge) → Contains (edges_at edges (kept ++ places_from (place + 1) (length edges))) edge ⊎ (get_or edges place d ≡ edge) → Contains (edges_at edges (kept ++ places_from place (length edges))) edge
    with_next edge (inl later) =
        let found = edges_at-stands edges (kept ++ places_from (place + 1) (length edges)) edge later in
        edges_at-contains edges (kept ++ places_from place (length edges)) found.place edge (kept_from_later kept place (place + 1) (length edges) found.place (omega arith) found.among) found.at
    with_next edge (inr same) =
        edges_at-contains edges (kept ++ places_from place (length edges)) place edge
        (Contains-append_right kept (places_from place (length edges)) place (Contains-places_from place (length edges) place (omega arith) within))
        (slice_get-get_or edges place d within ∙ ap Some same)

    without_next : (edge : Edge) → Contains (edges_at edges (kept ++ places_from place (length edges))) edge → Contains (edges_at edges (kept ++ places_from (place + 1) (length edges))) edge ⊎ (get_or edges place d ≡ edge)
    without_next edge among =
        let found = edges_at-stands edges (kept ++ places_from place (length edges)) edge among in
        ⊎_elim
        (λ in_kept. inl (edges_at-contains edges (kept ++ places_from (place + 1) (length edges)) found.place edge (Contains-append_left kept (places_from (place + 1) (length edges)) found.place in_kept) found.at))
        (λ in_rest.
        let is = places_from_bounds place (length edges) found.place in_rest in
        ⊎_elim
        (λ same. inr (get_same edges place (get_or edges place d) edge (slice_get-get_or edges place d within) (subst (λ p. slice_get edges p ≡ Some edge) same found.at)))
        (λ apart. inl (edges_at-contains edges (kept ++ places_from (place + 1) (length edges)) found.place edge
        (Contains-append_right kept (places_from (place + 1) (length edges)) found.place (Contains-places_from (place + 1) (length edges) found.place (omega (arith, is.0)) is.1)) found.at))
        (cases_eq found.place place))
        (Contains-append_cases kept (places_from place (length edges)) found.place found.among)

    module _ (old : Satisfied) (before : IsSatisfiedWith points (edges_at edges (kept ++ places_from (place + 1) (length edges))) old) where
      -- the edge at the place was put in
      pub with_more : (new : Satisfied) → IsSatisfiedGraph points (old.graph.edges.items ++ get_or edges place d ∷ []) new → IsSatisfiedWith points (edges_at edges (kept ++ places_from place (length edges))) new
      with_more new is = record {
        satisfied_own = satisfied_own_edges points (old.graph.edges.items ++ get_or edges place d ∷ []) new is;
        all = λ edge among. subst (λ list. Contains list edge) (sym is.graph.list)
            (⊎_elim (λ later. Contains-append_left old.graph.edges.items (get_or edges place d ∷ []) edge (before.all edge later))
            (λ same. Contains-append_right old.graph.edges.items (get_or edges place d ∷ []) edge (subst (Contains (get_or edges place d ∷ [])) same (Contains-head (get_or edges place d) [])))
            (without_next edge among));
        only = λ edge among. with_next edge
            (⊎_elim (λ was. inl (before.only edge was)) (λ same. inr same) (Contains-push_cases old.graph.edges.items (get_or edges place d) edge (subst (λ list. Contains list edge) is.graph.list among)));
      }

      -- the edge at the place couldn't be put in
      pub needs_place : (first : ℕ) → first ≤ place → HasPositiveCycle (old.graph.edges.items ++ get_or edges place d ∷ []) → IsNextNeeded edges kept first place
      needs_place first order found = record {
        after = order;
        within = within;
        none = no_schedule (edges_at edges (kept ++ places_from place (length edges)))
            (HasPositiveCycle-within (old.graph.edges.items ++ get_or edges place d ∷ []) (edges_at edges (kept ++ places_from place (length edges)))
            (λ edge among. with_next edge (⊎_elim (λ was. inl (before.only edge was)) (λ same. inr same) (Contains-push_cases old.graph.edges.items (get_or edges place d) edge among))) found);
        some =
            let own = schedule_from_satisfied points old.graph.edges.items old.values.items before.satisfied_own.values in
            (own.0, schedule_for old.graph.edges.items (edges_at edges (kept ++ places_from (place + 1) (length edges))) own.0 before.all own.1);
      }

-- a front of the list is part of it
Contains-take : {X : Type 0} (n : ℕ) (xs : List X) (x : X) → Contains (take n xs) x → Contains xs x
Contains-take n xs x among = subst (λ list. Contains list x) (take-append-drop n xs) (Contains-append_left (take n xs) (drop n xs) x among)

-- the next of the kept edges is put in, or can't be
module _ (points : ℕ) (edges : List Edge) (kept : List ℕ) (i : ℕ) (d : Edge) (inside : i < length kept) (within : All (λ place. place < length edges) kept) (old : Satisfied) (before : IsSatisfiedGraph points (edges_at edges (take i kept)) old) where
  same_front : old.graph.edges.items ++ get_or edges (get_or kept i 0) d ∷ [] ≡ edges_at edges (take (i + 1) kept)
  same_front = ap (λ list. list ++ get_or edges (get_or kept i 0) d ∷ []) before.graph.list ∙ sym (edges_at-take edges kept i d inside (within i 0 inside))

  pub kept_more : (new : Satisfied) → IsSatisfiedGraph (length old.values.items) (old.graph.edges.items ++ get_or edges (get_or kept i 0) d ∷ []) new → IsSatisfiedGraph points (edges_at edges (take (i + 1) kept)) new
  kept_more new is = subst (λ list. IsSatisfiedGraph points list new) same_front (subst (λ n. IsSatisfiedGraph n (old.graph.edges.items ++ get_or edges (get_or kept i 0) d ∷ []) new) before.values.count is)

  pub kept_cycle : HasPositiveCycle (old.graph.edges.items ++ get_or edges (get_or kept i 0) d ∷ []) → HasPositiveCycle (edges_at edges kept)
  kept_cycle found = HasPositiveCycle-within (edges_at edges (take (i + 1) kept)) (edges_at edges kept)
      (edges_at-within edges (take (i + 1) kept) kept (λ place among. Contains-take (i + 1) kept place among)) (subst HasPositiveCycle same_front found)

-- at the end all are in, so there is a schedule
pub with_all : (points : ℕ) (edges : List Edge) (kept : List ℕ) (first place : ℕ) (satisfied : Satisfied) → place ≤ first → IsSatisfiedWith points (edges_at edges (kept ++ places_from place (length edges))) satisfied
    → HasNoSchedule (edges_at edges (kept ++ places_from first (length edges))) → ⊥
with_all points edges kept first place satisfied order is none =
    let own = schedule_from_satisfied points satisfied.graph.edges.items satisfied.values.items is.satisfied_own.values in
    let all = schedule_for satisfied.graph.edges.items (edges_at edges (kept ++ places_from place (length edges))) own.0 is.all own.1 in
    none own.0 (schedule_for (edges_at edges (kept ++ places_from place (length edges))) (edges_at edges (kept ++ places_from first (length edges))) own.0
    (edges_at-within edges (kept ++ places_from first (length edges)) (kept ++ places_from place (length edges)) (λ other among. kept_from_later kept place first (length edges) other order among)) all)
