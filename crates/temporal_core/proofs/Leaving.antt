-- Leaving places out, one after the other.
use Rattle.std.proofs.Common.{◌≡◌, ◌≢◌, ℕ, suc, zero, ◌+◌, ◌-◌, ◌<◌, ◌≤◌, ℤ, ◌-ℤ◌, ◌⊎◌, inl, inr, ⊎_elim, List, [], ◌∷◌, ◌++◌, length, Option, Some, None, refl, sym, ap, ◌∙◌, subst, arith}
use Rattle.std.specs.Prelude.{Contains, All, slice_get, option_to_list}
use Rattle.std.specs.List.{range_with_len}
use Rattle.std.proofs.lemmas.Int.{ints}
use Rattle.std.proofs.lemmas.List.{append-nil, append_assoc}
use Rattle.std.proofs.lemmas.Bool.{cases_eq}
use Rattle.std.proofs.lemmas.List.Elements.{All-contains, All-weaker, Contains-append_left, Contains-append_right, Contains-append_cases, Contains-push_cases}
use Rattle.temporal_core.specs.declared.edges.Edge.{Edge}
use Rattle.temporal_core.specs.Schedule.{KeepsEdge, IsSchedule, HasNoSchedule}
use Rattle.temporal_core.specs.Cycle.{edges_at, LeavesAfter}
use Rattle.temporal_core.specs.Satisfied.{value_at, AreSatisfied}
use Rattle.temporal_core.specs.Canonical.{places_from}
use Rattle.temporal_core.proofs.Members.{all_from_contains}
use Rattle.eu_name.proofs.Members.{get_from_contains, get_below}
use Rattle.temporal_core.proofs.Walks.{Contains-head, Contains-tail, Contains-cons_cases}

-- values that keep the edges are, from the origin on, a schedule
pub schedule_from_kept : (edges : List Edge) (values : List ℤ) → All (KeepsEdge (value_at values)) edges → (value : ℕ → ℤ) × IsSchedule edges value
schedule_from_kept edges values keeps = (
  (λ point. value_at values point -ℤ value_at values 0),
  record {
    origin = omega (arith, ints);
    keeps = All-weaker (KeepsEdge (value_at values)) (KeepsEdge (λ point. value_at values point -ℤ value_at values 0)) (λ edge keeps. omega (arith, ints)) edges keeps;
  },
)

pub schedule_from_satisfied : (points : ℕ) (edges : List Edge) (values : List ℤ) → AreSatisfied points edges values → (value : ℕ → ℤ) × IsSchedule edges value
schedule_from_satisfied points edges values satisfied = schedule_from_kept edges values satisfied.keeps

-- more edges have no schedule either
pub HasNoSchedule-within : (edges more : List Edge) → ((edge : Edge) → Contains edges edge → Contains more edge) → HasNoSchedule edges → HasNoSchedule more
HasNoSchedule-within edges more within none = λ value schedule. none value (record {
  origin = schedule.origin;
  keeps = all_from_contains (KeepsEdge value) edges (λ edge among. All-contains (KeepsEdge value) more edge schedule.keeps (within edge among));
})

-- the edge at one of the places
pub edges_at-contains : (edges : List Edge) (places : List ℕ) (place : ℕ) (edge : Edge) → Contains places place → slice_get edges place ≡ Some edge → Contains (edges_at edges places) edge
edges_at-contains edges [] place edge among at = absurd (omega (arith, among.1))
edges_at-contains edges (first ∷ places) place edge among at =
    ⊎_elim
    (λ same. Contains-append_left (option_to_list (slice_get edges first)) (edges_at edges places) edge
    (subst (λ o. Contains (option_to_list o) edge) (sym (ap (slice_get edges) same ∙ at)) (Contains-head edge [])))
    (λ later. Contains-append_right (option_to_list (slice_get edges first)) (edges_at edges places) edge (edges_at-contains edges places place edge later at))
    (Contains-cons_cases first places place among)

-- each of the edges at places is at one of them
pub record StandsAt (edges : List Edge) (places : List ℕ) (edge : Edge) : Type 0 where
  pub place : ℕ
  pub among : Contains places place
  pub at : slice_get edges place ≡ Some edge

only_one : (option : Option Edge) (edge : Edge) → Contains (option_to_list option) edge → option ≡ Some edge
only_one None edge among = absurd (omega (arith, among.1))
only_one (Some other) edge among = ⊎_elim (λ same. ap Some same) (λ none. absurd (omega (arith, none.1))) (Contains-cons_cases other [] edge among)

pub edges_at-stands : (edges : List Edge) (places : List ℕ) (edge : Edge) → Contains (edges_at edges places) edge → StandsAt edges places edge
edges_at-stands edges [] edge among = absurd (omega (arith, among.1))
edges_at-stands edges (first ∷ places) edge among =
    ⊎_elim
    (λ here. record { place = first; among = Contains-head first places; at = only_one (slice_get edges first) edge here })
    (λ later. let found = edges_at-stands edges places edge later in record { place = found.place; among = Contains-tail first places found.place found.among; at = found.at })
    (Contains-append_cases (option_to_list (slice_get edges first)) (edges_at edges places) edge among)

pub edges_at-within : (edges : List Edge) (places more : List ℕ) → ((place : ℕ) → Contains places place → Contains more place) → (edge : Edge) → Contains (edges_at edges places) edge → Contains (edges_at edges more) edge
edges_at-within edges places more within edge among =
    let found = edges_at-stands edges places edge among in
    edges_at-contains edges more found.place edge (within found.place found.among) found.at

-- no schedule for the edges at some places, none for those at more places
pub none_at_more : (edges : List Edge) (places more : List ℕ) → ((place : ℕ) → Contains places place → Contains more place) → HasNoSchedule (edges_at edges places) → HasNoSchedule (edges_at edges more)
none_at_more edges places more within none = HasNoSchedule-within (edges_at edges places) (edges_at edges more) (edges_at-within edges places more within) none

pub Contains-range : (first count place : ℕ) → first ≤ place → place < first + count → Contains (range_with_len first count) place
Contains-range first zero place from below = absurd (omega arith)
Contains-range first (suc count) place from below =
    ⊎_elim
    (λ same. subst (Contains (first ∷ range_with_len (first + 1) count)) (sym same) (Contains-head first (range_with_len (first + 1) count)))
    (λ apart. Contains-tail first (range_with_len (first + 1) count) place (Contains-range (first + 1) count place (omega arith) (omega arith)))
    (cases_eq place first)

pub range_bounds : (first count place : ℕ) → Contains (range_with_len first count) place → (first ≤ place) × (place < first + count)
range_bounds first zero place among = absurd (omega (arith, among.1))
range_bounds first (suc count) place among =
    ⊎_elim
    (λ same. (omega arith, omega arith))
    (λ later. let rest = range_bounds (first + 1) count place later in (omega (arith, rest.0), omega (arith, rest.1)))
    (Contains-cons_cases first (range_with_len (first + 1) count) place among)

pub Contains-places_from : (first count place : ℕ) → first ≤ place → place < count → Contains (places_from first count) place
Contains-places_from first count place from below = Contains-range first (count - first) place from (omega arith)

pub places_from_bounds : (first count place : ℕ) → Contains (places_from first count) place → (first ≤ place) × (place < count)
places_from_bounds first count place among = let is = range_bounds first (count - first) place among in (is.0, omega (arith, is.0, is.1))

pub places_from-next : (first count : ℕ) → first < count → places_from first count ≡ first ∷ places_from (first + 1) count
places_from-next first count below = ap (range_with_len first) (let e : count - first ≡ suc (count - (first + 1)) = omega arith in e)

-- places after the kept ones, from a later place on, are fewer
pub kept_from_later : (kept : List ℕ) (first later count place : ℕ) → first ≤ later → Contains (kept ++ places_from later count) place → Contains (kept ++ places_from first count) place
kept_from_later kept first later count place order among =
    ⊎_elim
    (λ in_kept. Contains-append_left kept (places_from first count) place in_kept)
    (λ in_rest. let is = places_from_bounds later count place in_rest in Contains-append_right kept (places_from first count) place (Contains-places_from first count place (omega (arith, is.0)) is.1))
    (Contains-append_cases kept (places_from later count) place among)

-- before the place from which on there is no schedule, all places are left out
leaves_out : (edges : List Edge) (kept left : List ℕ) (steps first : ℕ) → first + steps ≤ length edges → HasNoSchedule (edges_at edges (kept ++ places_from (first + steps) (length edges)))
    → LeavesAfter edges kept (places_from (first + steps) (length edges)) left → LeavesAfter edges kept (places_from first (length edges)) left
leaves_out edges kept left zero first within none leaves = subst (λ n. LeavesAfter edges kept (places_from n (length edges)) left) (let e : first + zero ≡ first = omega arith in e) leaves
leaves_out edges kept left (suc steps) first within none leaves =
    let next : first + suc steps ≡ (first + 1) + steps = omega arith in
    let none_next = subst (λ n. HasNoSchedule (edges_at edges (kept ++ places_from n (length edges)))) next none in
    let leaves_next = subst (λ n. LeavesAfter edges kept (places_from n (length edges)) left) next leaves in
    let rest = leaves_out edges kept left steps (first + 1) (omega arith) none_next leaves_next in
    let still = none_at_more edges (kept ++ places_from ((first + 1) + steps) (length edges)) (kept ++ places_from (first + 1) (length edges))
    (λ place among. kept_from_later kept (first + 1) ((first + 1) + steps) (length edges) place (omega arith) among) none_next in
    subst (λ places. LeavesAfter edges kept places left) (sym (places_from-next first (length edges) (omega arith))) (inl (still, rest))

-- and that place stays
pub leaves_next : (edges : List Edge) (kept left : List ℕ) (first place : ℕ) → first ≤ place → place < length edges → HasNoSchedule (edges_at edges (kept ++ places_from place (length edges)))
    → ((value : ℕ → ℤ) × IsSchedule (edges_at edges (kept ++ places_from (place + 1) (length edges))) value)
    → LeavesAfter edges (kept ++ place ∷ []) (places_from (place + 1) (length edges)) left → LeavesAfter edges kept (places_from first (length edges)) left
leaves_next edges kept left first place order within none some leaves =
    let at : first + (place - first) ≡ place = omega arith in
    let stays : LeavesAfter edges kept (places_from place (length edges)) left =
    subst (λ places. LeavesAfter edges kept places left) (sym (places_from-next place (length edges) within)) (inr ((λ no. no some.0 some.1), leaves)) in
    leaves_out edges kept left (place - first) first (omega arith) (subst (λ n. HasNoSchedule (edges_at edges (kept ++ places_from n (length edges)))) (sym at) none)
    (subst (λ n. LeavesAfter edges kept (places_from n (length edges)) left) (sym at) stays)

-- where the kept ones have no schedule alone, all others are left out
pub leaves_rest : (edges : List Edge) (kept rest : List ℕ) → HasNoSchedule (edges_at edges kept) → LeavesAfter edges kept rest kept
leaves_rest edges kept [] none = refl
leaves_rest edges kept (place ∷ rest) none =
    inl (none_at_more edges kept (kept ++ rest) (λ other among. Contains-append_left kept rest other among) none, leaves_rest edges kept rest none)

-- what is left was there
left_within : (edges : List Edge) (kept rest left : List ℕ) → LeavesAfter edges kept rest left → (place : ℕ) → Contains left place → Contains (kept ++ rest) place
left_within edges kept [] left leaves place among = subst (λ list. Contains list place) (leaves ∙ sym (append-nil kept)) among
left_within edges kept (first ∷ rest) left (inl goes) place among =
    ⊎_elim (λ in_kept. Contains-append_left kept (first ∷ rest) place in_kept) (λ in_rest. Contains-append_right kept (first ∷ rest) place (Contains-tail first rest place in_rest))
    (Contains-append_cases kept rest place (left_within edges kept rest left goes.1 place among))
left_within edges kept (first ∷ rest) left (inr stays) place among =
    subst (λ list. Contains list place) (append_assoc kept (first ∷ []) rest) (left_within edges (kept ++ first ∷ []) rest left stays.1 place among)

-- each place that is left is needed: without it the edges have a schedule
pub each_needed : (edges : List Edge) (kept rest left : List ℕ) → LeavesAfter edges kept rest left → (place : ℕ) → Contains left place
    → Contains kept place ⊎ ((some : List ℕ) → ((other : ℕ) → Contains some other → Contains left other × (other ≢ place)) → HasNoSchedule (edges_at edges some) → ⊥)
each_needed edges kept [] left leaves place among = inl (subst (λ list. Contains list place) leaves among)
each_needed edges kept (first ∷ rest) left (inl goes) place among = each_needed edges kept rest left goes.1 place among
each_needed edges kept (first ∷ rest) left (inr stays) place among =
    ⊎_elim
    (λ in_kept. ⊎_elim (λ before. inl before) (λ same. inr (λ some within none. stays.0 (none_at_more edges some (kept ++ rest) (λ other there.
    let is = within other there in
    ⊎_elim
    (λ in_front. ⊎_elim (λ old. Contains-append_left kept rest other old) (λ it. absurd (is.1 (sym it ∙ same))) (Contains-push_cases kept first other in_front))
    (λ in_rest. Contains-append_right kept rest other in_rest)
    (Contains-append_cases (kept ++ first ∷ []) rest other (left_within edges (kept ++ first ∷ []) rest left stays.1 other is.0))) none)))
    (Contains-push_cases kept first place in_kept))
    (λ needed. inr needed)
    (each_needed edges (kept ++ first ∷ []) rest left stays.1 place among)

-- all places together have all edges
pub all_places : (edges : List Edge) → HasNoSchedule edges → HasNoSchedule (edges_at edges ([] ++ places_from 0 (length edges)))
all_places edges none = HasNoSchedule-within edges (edges_at edges ([] ++ places_from 0 (length edges)))
    (λ edge among. let found = get_from_contains edges edge among in
    edges_at-contains edges ([] ++ places_from 0 (length edges)) found.0 edge (Contains-places_from 0 (length edges) found.0 (omega arith) (get_below edges found.0 edge found.1)) found.1)
    none

-- what is left is one list
pub left_is_one : (edges : List Edge) (kept rest one other : List ℕ) → LeavesAfter edges kept rest one → LeavesAfter edges kept rest other → one ≡ other
left_is_one edges kept [] one other p q = p ∙ sym q
left_is_one edges kept (place ∷ rest) one other (inl p) (inl q) = left_is_one edges kept rest one other p.1 q.1
left_is_one edges kept (place ∷ rest) one other (inl p) (inr q) = absurd (q.0 p.0)
left_is_one edges kept (place ∷ rest) one other (inr p) (inl q) = absurd (p.0 q.0)
left_is_one edges kept (place ∷ rest) one other (inr p) (inr q) = left_is_one edges (kept ++ place ∷ []) rest one other p.1 q.1
