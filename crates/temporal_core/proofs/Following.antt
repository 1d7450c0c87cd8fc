-- Going round a cycle from place to place.
use Rattle.std.proofs.Common.{◌≡◌, ◌≢◌, ℕ, suc, zero, ◌+◌, ◌-◌, ◌<◌, ◌≤◌, pos, ⊎_elim, List, [], ◌∷◌, ◌++◌, length, get_or, map, take, refl, sym, ap, ◌∙◌, subst, arith}
use Rattle.std.specs.Prelude.{Contains, All, option_to_list}
use Rattle.std.proofs.lemmas.Option.{slice_get-get_or}
use Rattle.std.proofs.lemmas.List.{get_or-map, get_or_default, length-map, take_more, take_all}
use Rattle.std.proofs.lemmas.Bool.{cases_lt}
use Rattle.std.proofs.lemmas.List.Elements.{All-head, All-tail, All-contains, Contains-get_or}
use Rattle.temporal_core.specs.declared.edges.Edge.{Edge}
use Rattle.temporal_core.specs.Network.{IsEdge}
use Rattle.temporal_core.specs.Cycle.{edges_at, LeadsFrom, LeadsBack, IsSimple, BeginsLeast}
use Rattle.temporal_core.specs.Canonical.{edge_at, IsCycleOf}
use Rattle.temporal_core.proofs.Members.{all_from_contains}
use Rattle.eu_name.proofs.Members.{contains_from_get}
use Rattle.temporal_core.proofs.Walks.{Contains-cons_cases, simple_is_short}
use Rattle.temporal_core.proofs.Leaving.{edges_at-stands}

-- the edges at places within the list
edges_at-map : (edges : List Edge) (places : List ℕ) → All (λ place. place < length edges) places → edges_at edges places ≡ map (edge_at edges) places
edges_at-map edges [] within = refl
edges_at-map edges (place ∷ places) within =
    ap (λ o. option_to_list o ++ edges_at edges places) (slice_get-get_or edges place (record { from = 0; to = 0; gap = pos 0 }) (All-head (λ place. place < length edges) place places within))
    ∙ ap (λ rest. edge_at edges place ∷ rest) (edges_at-map edges places (All-tail (λ place. place < length edges) place places within))

module _ (edges : List Edge) where
  -- each edge begins where the one before it ends
  follows : (from to : ℕ) (places : List ℕ) → LeadsFrom from (map (edge_at edges) places) to → (i : ℕ) → i + 1 < length places → (edge_at edges (get_or places (i + 1) 0)).from ≡ (edge_at edges (get_or places i 0)).to
  follows from to [] leads i within = absurd (omega arith)
  follows from to (place ∷ []) leads i within = absurd (omega arith)
  follows from to (place ∷ next ∷ places) leads zero within = leads.1.0
  follows from to (place ∷ next ∷ places) leads (suc i) within =
      let shift : suc i + 1 ≡ suc (i + 1) = omega arith in
      ap (λ k. (edge_at edges (get_or (place ∷ next ∷ places) k 0)).from) shift ∙ follows (edge_at edges place).to to (next ∷ places) leads.1 i (omega arith)

  -- and the last leads to the end
  comes_back : (from to : ℕ) (places : List ℕ) → LeadsFrom from (map (edge_at edges) places) to → (i : ℕ) → i + 1 ≡ length places → (edge_at edges (get_or places i 0)).to ≡ to
  comes_back from to [] leads i last = absurd (omega arith)
  comes_back from to (place ∷ []) leads zero last = leads.1
  comes_back from to (place ∷ []) leads (suc i) last = absurd (omega arith)
  comes_back from to (place ∷ next ∷ places) leads zero last = absurd (omega arith)
  comes_back from to (place ∷ next ∷ places) leads (suc i) last = comes_back (edge_at edges place).to to (next ∷ places) leads.1 i (omega arith)

  -- two of the places whose edges begin at one point are one
  one_of : (places : List ℕ) → IsSimple (map (edge_at edges) places) → (i j : ℕ) → i < length places → j < length places → (edge_at edges (get_or places i 0)).from ≡ (edge_at edges (get_or places j 0)).from → i ≡ j
  one_of [] simple i j below_i below_j same = absurd (omega arith)
  one_of (place ∷ places) simple zero zero below_i below_j same = refl
  one_of (place ∷ places) simple zero (suc j) below_i below_j same = absurd (apart places simple.0 j (omega arith) (sym same))
    where
      apart : (list : List ℕ) → All (λ other. other.from ≢ (edge_at edges place).from) (map (edge_at edges) list) → (k : ℕ) → k < length list → (edge_at edges (get_or list k 0)).from ≢ (edge_at edges place).from
      apart list all k within same = all k (edge_at edges 0) (subst (λ n. k < n) (sym (length-map list (edge_at edges))) within) (ap (λ (e : Edge). e.from) (get_or-map (edge_at edges) list k 0 (edge_at edges 0) within) ∙ same)
  one_of (place ∷ places) simple (suc i) zero below_i below_j same = absurd (apart places simple.0 i (omega arith) same)
    where
      apart : (list : List ℕ) → All (λ other. other.from ≢ (edge_at edges place).from) (map (edge_at edges) list) → (k : ℕ) → k < length list → (edge_at edges (get_or list k 0)).from ≢ (edge_at edges place).from
      apart list all k within same = all k (edge_at edges 0) (subst (λ n. k < n) (sym (length-map list (edge_at edges))) within) (ap (λ (e : Edge). e.from) (get_or-map (edge_at edges) list k 0 (edge_at edges 0) within) ∙ same)
  one_of (place ∷ places) simple (suc i) (suc j) below_i below_j same = ap suc (one_of places simple.1 i j (omega arith) (omega arith) same)

-- as much of the cycle as was gone through
pub record IsOrderedTo (cycle : List ℕ) (i : ℕ) (ordered : List ℕ) (place : ℕ) : Type 0 where
  pub inside : i < length cycle
  pub front : ordered ≡ take i cycle
  pub here : place ≡ get_or cycle i 0

module _ (edges : List Edge) (places cycle : List ℕ) (is : IsCycleOf edges places cycle) where
  are_edges : edges_at edges cycle ≡ map (edge_at edges) cycle
  are_edges = edges_at-map edges cycle is.cycle.within

  simple_cycle : IsSimple (map (edge_at edges) cycle)
  simple_cycle = subst IsSimple are_edges is.cycle.simple

  closed_cycle : LeadsBack (map (edge_at edges) cycle)
  closed_cycle = subst LeadsBack are_edges is.cycle.closed

  pub cycle_some : 0 < length cycle
  cycle_some = some cycle closed_cycle
    where
      some : (list : List ℕ) → LeadsBack (map (edge_at edges) list) → 0 < length list
      some [] closed = absurd closed
      some (place ∷ list) closed = omega arith

  pub places_some : 0 < length places
  places_some = let among = (is.same (get_or cycle 0 0)).0 (Contains-get_or cycle 0 0 cycle_some) in omega (arith, among.1)

  pub cycle_short : (points : ℕ) → All (IsEdge points) edges → length cycle ≤ points
  cycle_short points each =
      let short = simple_is_short points (edges_at edges cycle) is.cycle.simple
      (all_from_contains (λ (edge : Edge). edge.from < points) (edges_at edges cycle) (λ edge among.
      let found = edges_at-stands edges cycle edge among in
      (All-contains (IsEdge points) edges edge each (contains_from_get edges found.place edge found.at)).from)) in
      let count : length (edges_at edges cycle) ≡ length cycle = ap length are_edges ∙ length-map cycle (edge_at edges) in
      omega arith

  -- a place whose edge begins where that of a place of the cycle does is that place
  same_place : (place i : ℕ) → Contains places place → i < length cycle → (edge_at edges place).from ≡ (edge_at edges (get_or cycle i 0)).from → place ≡ get_or cycle i 0
  same_place place i among within same =
      let found = (is.same place).1 among in
      let at : get_or cycle found.0 0 ≡ place = get_or_default cycle found.0 0 place found.1 ∙ found.2 in
      let index = one_of edges cycle simple_cycle found.0 i found.1 within (ap (λ p. (edge_at edges p).from) at ∙ same) in
      sym at ∙ ap (λ k. get_or cycle k 0) index

  leads_round : LeadsFrom (edge_at edges (get_or cycle 0 0)).from (map (edge_at edges) cycle) (edge_at edges (get_or cycle 0 0)).from
  leads_round = round cycle closed_cycle
    where
      round : (list : List ℕ) → LeadsBack (map (edge_at edges) list) → LeadsFrom (edge_at edges (get_or list 0 0)).from (map (edge_at edges) list) (edge_at edges (get_or list 0 0)).from
      round [] closed = absurd closed
      round (place ∷ list) closed = (refl, closed)

  begins_least : All (λ place. (edge_at edges (get_or cycle 0 0)).from ≤ (edge_at edges place).from) cycle
  begins_least = least cycle (subst BeginsLeast are_edges is.first)
    where
      least : (list : List ℕ) → BeginsLeast (map (edge_at edges) list) → All (λ place. (edge_at edges (get_or list 0 0)).from ≤ (edge_at edges place).from) list
      least [] first = absurd first
      least (place ∷ list) first = all_from_contains (λ other. (edge_at edges place).from ≤ (edge_at edges other).from) (place ∷ list) (λ other among.
          ⊎_elim (λ same. subst (λ p. (edge_at edges place).from ≤ (edge_at edges p).from) same (omega arith))
          (λ later. subst (λ (e : Edge). (edge_at edges place).from ≤ e.from) (get_or-map (edge_at edges) list later.0 other (edge_at edges other) later.1 ∙ ap (edge_at edges) later.2)
          (first later.0 (edge_at edges other) (subst (λ n. later.0 < n) (sym (length-map list (edge_at edges))) later.1)))
          (Contains-cons_cases place list other among))

  -- the place with the least point is the first of the cycle
  pub first_is : (start : ℕ) → Contains places start → All (λ place. (edge_at edges start).from ≤ (edge_at edges place).from) places → start ≡ get_or cycle 0 0
  first_is start among least =
      let first = get_or cycle 0 0 in
      let first_among = (is.same first).0 (Contains-get_or cycle 0 0 cycle_some) in
      let below = All-contains (λ place. (edge_at edges start).from ≤ (edge_at edges place).from) places first least first_among in
      let above = All-contains (λ place. (edge_at edges first).from ≤ (edge_at edges place).from) cycle start begins_least ((is.same start).1 among) in
      same_place start 0 among cycle_some (omega arith)

  pub ordered_none : (start : ℕ) (ordered : List ℕ) → ordered ≡ [] → Contains places start → All (λ place. (edge_at edges start).from ≤ (edge_at edges place).from) places → IsOrderedTo cycle 0 ordered start
  ordered_none start ordered none among least = record { inside = cycle_some; front = none; here = first_is start among least }

  module _ (i : ℕ) (ordered : List ℕ) (place : ℕ) (so_far : IsOrderedTo cycle i ordered place) where
    -- some edge begins where the one at the place ends
    pub goes_on : (other : ℕ) × Contains places other × ((edge_at edges other).from ≡ (edge_at edges place).to)
    goes_on =
        ⊎_elim
        (λ more. (
          get_or cycle (i + 1) 0,
          (is.same (get_or cycle (i + 1) 0)).0 (Contains-get_or cycle (i + 1) 0 more),
          follows edges (edge_at edges (get_or cycle 0 0)).from (edge_at edges (get_or cycle 0 0)).from cycle leads_round i more ∙ ap (λ p. (edge_at edges p).to) (sym so_far.here),
        ))
        (λ last. (
          get_or cycle 0 0,
          (is.same (get_or cycle 0 0)).0 (Contains-get_or cycle 0 0 cycle_some),
          sym (comes_back edges (edge_at edges (get_or cycle 0 0)).from (edge_at edges (get_or cycle 0 0)).from cycle leads_round i (let inside = so_far.inside in omega arith)) ∙ ap (λ p. (edge_at edges p).to) (sym so_far.here),
        ))
        (cases_lt (i + 1) (length cycle))

    module _ (next start : ℕ) (pushed : List ℕ) (is_pushed : pushed ≡ ordered ++ place ∷ []) (among : Contains places next) (from : (edge_at edges next).from ≡ (edge_at edges place).to) (begins : start ≡ get_or cycle 0 0) where
      front_next : pushed ≡ take (i + 1) cycle
      front_next = is_pushed ∙ ap (λ list. list ++ place ∷ []) so_far.front ∙ ap (λ p. take i cycle ++ p ∷ []) so_far.here ∙ sym (take_more cycle i 0 so_far.inside)

      -- where the next place isn't the first, it is the next of the cycle
      pub ordered_next : (next ≡ start → ⊥) → IsOrderedTo cycle (i + 1) pushed next
      ordered_next not_start =
          ⊎_elim
          (λ more. record {
            inside = more;
            front = front_next;
            here = same_place next (i + 1) among more (from ∙ ap (λ p. (edge_at edges p).to) so_far.here ∙ sym (follows edges (edge_at edges (get_or cycle 0 0)).from (edge_at edges (get_or cycle 0 0)).from cycle leads_round i more));
          })
          (λ last. absurd (not_start (same_place next 0 among cycle_some
          (from ∙ ap (λ p. (edge_at edges p).to) so_far.here ∙ comes_back edges (edge_at edges (get_or cycle 0 0)).from (edge_at edges (get_or cycle 0 0)).from cycle leads_round i (let inside = so_far.inside in omega arith)) ∙ sym begins)))
          (cases_lt (i + 1) (length cycle))

      -- where it is the first, the cycle is complete
      pub ordered_all : next ≡ start → pushed ≡ cycle
      ordered_all at_start =
          ⊎_elim
          (λ more.
          let again = same_place next (i + 1) among more (from ∙ ap (λ p. (edge_at edges p).to) so_far.here ∙ sym (follows edges (edge_at edges (get_or cycle 0 0)).from (edge_at edges (get_or cycle 0 0)).from cycle leads_round i more)) in
          let index = one_of edges cycle simple_cycle (i + 1) 0 more cycle_some (ap (λ p. (edge_at edges p).from) (sym again ∙ at_start ∙ begins)) in
          absurd (omega arith))
          (λ last. front_next ∙ take_all (i + 1) cycle last)
          (cases_lt (i + 1) (length cycle))

-- two orders of the same places are one
module _ (edges : List Edge) (places one other : List ℕ) (is_one : IsCycleOf edges places one) (is_other : IsCycleOf edges places other) where
  start_among : Contains places (get_or one 0 0)
  start_among = (is_one.same (get_or one 0 0)).0 (Contains-get_or one 0 0 (cycle_some edges places one is_one))

  start_least : All (λ place. (edge_at edges (get_or one 0 0)).from ≤ (edge_at edges place).from) places
  start_least = all_from_contains (λ place. (edge_at edges (get_or one 0 0)).from ≤ (edge_at edges place).from) places (λ place among.
      All-contains (λ place. (edge_at edges (get_or one 0 0)).from ≤ (edge_at edges place).from) one place (begins_least edges places one is_one) ((is_one.same place).1 among))

  -- the other order goes the same way
  same_way : (i : ℕ) → i < length one → IsOrderedTo other i (take i one) (get_or one i 0)
  same_way zero within = ordered_none edges places other is_other (get_or one 0 0) [] refl start_among start_least
  same_way (suc i) within =
      let shift : i + 1 ≡ suc i = omega arith in
      let point = (edge_at edges (get_or one 0 0)).from in
      let next = get_or one (i + 1) 0 in
      subst (λ k. IsOrderedTo other k (take k one) (get_or one k 0)) shift
      (ordered_next edges places other is_other i (take i one) (get_or one i 0) (same_way i (omega arith)) next (get_or one 0 0) (take (i + 1) one) (take_more one i 0 (omega arith))
      ((is_one.same next).0 (Contains-get_or one (i + 1) 0 (omega arith)))
      (follows edges point point one (leads_round edges places one is_one) i (omega arith))
      (first_is edges places other is_other (get_or one 0 0) start_among start_least)
      (λ again.
      let index = one_of edges one (simple_cycle edges places one is_one) (i + 1) 0 (omega arith) (cycle_some edges places one is_one) (ap (λ p. (edge_at edges p).from) again) in
      omega arith))

  pub cycle_is_one : one ≡ other
  cycle_is_one =
      let some = cycle_some edges places one is_one in
      let last = length one - 1 in
      let point = (edge_at edges (get_or one 0 0)).from in
      let so_far = same_way last (omega arith) in
      let whole : take (last + 1) one ≡ one = take_all (last + 1) one (omega arith) in
      let all = ordered_all edges places other is_other last (take last one) (get_or one last 0) so_far (get_or one 0 0) (get_or one 0 0) (take (last + 1) one) (take_more one last 0 (omega arith))
      start_among (sym (comes_back edges point point one (leads_round edges places one is_one) last (omega arith))) (first_is edges places other is_other (get_or one 0 0) start_among start_least) refl in
      sym whole ∙ all
