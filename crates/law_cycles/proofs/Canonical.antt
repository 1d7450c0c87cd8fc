-- Edges without a schedule have a canonical cycle.
use Rattle.std.proofs.Common.{ℕ, ◌<◌, inl, inr, ⊎_elim, List, [], ◌∷◌, ◌++◌, length, refl, sym, ◌∙◌, subst, arith}
use Rattle.std.specs.Prelude.{Contains, All}
use Rattle.std.specs.List.{range_with_len}
use Rattle.std.proofs.lemmas.List.{append-nil, append_assoc}
use Rattle.std.proofs.lemmas.List.Elements.{All-contains, Contains-append_left, Contains-append_right, Contains-append_cases}
use Rattle.eu_name.proofs.Members.{contains_from_get, get_from_contains, get_below}
use Rattle.eu_name.proofs.Ordered.{contains_later}
use Rattle.law_states.specs.Undeniable.{Undeniable}
use Rattle.law_states.proofs.Denying.{is_or_not}
use Rattle.temporal_core.specs.declared.edges.Edge.{Edge}
use Rattle.temporal_core.specs.Schedule.{HasNoSchedule}
use Rattle.temporal_core.specs.Cycle.{edges_at, LeavesAfter, LeavesNeeded, IsCanonicalCycle}
use Rattle.temporal_core.specs.Satisfied.{HasPositiveCycle}
use Rattle.temporal_core.specs.Canonical.{AreNeeded}
use Rattle.temporal_core.proofs.Ordering.{cycle_of}
use Rattle.temporal_core.proofs.Leaving.{Contains-range, range_bounds, edges_at-contains, edges_at-stands, HasNoSchedule-within}
use Rattle.temporal_core.proofs.Members.{all_from_contains}
use Rattle.law_cycles.proofs.Raised.{JoinsBelow, values_or_cycle, schedule_from_values}

-- ---- what is left

something_left : (edges : List Edge) (kept rest : List ℕ) → Undeniable ((left : List ℕ) × LeavesAfter edges kept rest left)
something_left edges kept [] none = none (kept, refl)
something_left edges kept (place ∷ rest) none = is_or_not (HasNoSchedule (edges_at edges (kept ++ rest))) (λ which. elim which [
  | inl goes ↦ something_left edges kept rest (λ found. none (found.0, inl (goes, found.1)))
  | inr stays ↦ something_left edges (kept ++ place ∷ []) rest (λ found. none (found.0, inr (stays, found.1)))
])

-- it has no schedule if all together have none
none_for_left : (edges : List Edge) (kept rest left : List ℕ) → LeavesAfter edges kept rest left → HasNoSchedule (edges_at edges (kept ++ rest)) → HasNoSchedule (edges_at edges left)
none_for_left edges kept [] left leaves none = subst (λ (list : List ℕ). HasNoSchedule (edges_at edges list)) (append-nil kept ∙ sym leaves) none
none_for_left edges kept (place ∷ rest) left (inl goes) none = none_for_left edges kept rest left goes.1 goes.0
none_for_left edges kept (place ∷ rest) left (inr stays) none =
    none_for_left edges (kept ++ place ∷ []) rest left stays.1
    (subst (λ (list : List ℕ). HasNoSchedule (edges_at edges list)) (sym (append_assoc kept (place ∷ []) rest)) none)

-- and it was there
left_was_there : (edges : List Edge) (kept rest left : List ℕ) → LeavesAfter edges kept rest left → (place : ℕ) → Contains left place → Contains (kept ++ rest) place
left_was_there edges kept [] left leaves place among = subst (λ (list : List ℕ). Contains list place) (leaves ∙ sym (append-nil kept)) among
left_was_there edges kept (first ∷ rest) left (inl goes) place among =
    ⊎_elim (λ in_kept. Contains-append_left kept (first ∷ rest) place in_kept) (λ in_rest. Contains-append_right kept (first ∷ rest) place (contains_later first place rest in_rest))
    (Contains-append_cases kept rest place (left_was_there edges kept rest left goes.1 place among))
left_was_there edges kept (first ∷ rest) left (inr stays) place among =
    subst (λ (list : List ℕ). Contains list place) (append_assoc kept (first ∷ []) rest) (left_was_there edges (kept ++ first ∷ []) rest left stays.1 place among)

-- ---- the cycle

module _ (edges : List Edge) where
  abbrev all_places : List ℕ
  all_places = range_with_len 0 (length edges)

  none_at_all : HasNoSchedule edges → HasNoSchedule (edges_at edges all_places)
  none_at_all none =
      HasNoSchedule-within edges (edges_at edges all_places)
      (λ edge among. let found = get_from_contains edges edge among in
      edges_at-contains edges all_places found.0 edge (Contains-range 0 (length edges) found.0 (omega arith) (omega (arith, get_below edges found.0 edge found.1))) found.1)
      none

  module _ (left : List ℕ) (leaves : LeavesNeeded edges left) where
    left_within : All (λ place. place < length edges) left
    left_within = all_from_contains (λ place. place < length edges) left (λ place among.
        let bounds = range_bounds 0 (length edges) place (left_was_there edges [] all_places left leaves place among) in
        omega (arith, bounds.1))

    left_cycle : HasPositiveCycle (edges_at edges left) → (places : List ℕ) × IsCanonicalCycle edges places
    left_cycle cycle =
        let needed : AreNeeded edges left = record { within = left_within; leaves = leaves; cycle = cycle } in
        let ordered = cycle_of edges left needed in
        (ordered.0, record { left = left; leaves = leaves; same = ordered.1.same; cycle = ordered.1.cycle; first = ordered.1.first })

  pub canonical_cycle : (points : ℕ) → All (JoinsBelow points) edges → HasNoSchedule edges → Undeniable ((places : List ℕ) × IsCanonicalCycle edges places)
  canonical_cycle points joins none denied = something_left edges [] all_places (λ found.
      values_or_cycle points (edges_at edges found.0)
      (all_from_contains (JoinsBelow points) (edges_at edges found.0) (λ edge among.
      let stands = edges_at-stands edges found.0 edge among in
      All-contains (JoinsBelow points) edges edge joins (contains_from_get edges stands.place edge stands.at)))
      (λ which. elim which [
        | inl values ↦
            (let schedule = schedule_from_values (edges_at edges found.0) values.0 values.1 in
            none_for_left edges [] all_places found.0 found.1 (none_at_all none) schedule.0 schedule.1)
        | inr cycle ↦ denied (left_cycle found.0 found.1 cycle)
      ]))
