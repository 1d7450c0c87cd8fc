-- Edges between points and between the numbers of these have the same times, and so the same cycle.
use Rattle.std.proofs.Common.{◌≡◌, ◌≢◌, ℕ, ℤ, zero, suc, pos, ◌+◌, ◌+ℤ◌, ◌≤ℤ◌, ◌<ℤ◌, ◌<◌, ◌≤◌, List, [], ◌∷◌, ◌++◌, length, map, get_or, Some, None, inl, inr, ⊎_elim, refl, sym, ap, ◌∙◌, subst, arith}
use Rattle.std.specs.Prelude.{Contains, All, Option, slice_get, option_to_list}
use Rattle.std.specs.List.{AllZip, range_with_len}
use Rattle.std.proofs.lemmas.List.{append_assoc, length-map, length_push, map-append}
use Rattle.std.proofs.lemmas.List.Elements.{All-contains, Contains-append_right, Contains-append_cases}
use Rattle.std.proofs.lemmas.Option.{get_or_from_slice_get}
use Rattle.eu_name.proofs.Members.{contains_from_get, get_within}
use Rattle.eu_name.proofs.Ordered.{contains_head, contains_later, contains_cases, contains_none, ordered_none, ordered_cons}
use Rattle.db_edges.specs.declared.edge.NamedEdge.{NamedEdge}
use Rattle.db_edges.specs.declared.edge.Point.{Point}
use Rattle.db_edges.specs.declared.edge.Point.TheVariants.{Origin}
use Rattle.temporal_core.specs.declared.edges.Edge.{Edge}
use Rattle.temporal_core.specs.Schedule.{KeepsEdge, IsSchedule, HasNoSchedule}
use Rattle.temporal_core.specs.Cycle.{edges_at, gap_sum, LeadsFrom, LeadsBack, IsSimple, LeavesAfter, BeginsLeast, IsCanonicalCycle}
use Rattle.temporal_core.proofs.Members.{all_from_contains}
use Rattle.temporal_core.proofs.Leaving.{range_bounds}
use Rattle.db_edges.specs.TimeCycle.{IsTiming, HasNoTiming, LeavesBy, LeadsAlong, LeadsRound, PassesOnce, gaps_of, BeginsFirst, IsCanonicalRound, IsTimeCycle}
use Rattle.conflict_core.specs.Points.{ArePoints, HavePoints, NumbersEdge}
use Rattle.conflict_core.specs.Walks.{walk_at}
use Rattle.conflict_core.proofs.Ordering.{number_in, number_stands, number_is, number_orders, number_same, origin_number}

-- ---- lists

-- the things of a mapped list
module _ {X Y : Type 0} (f : X → Y) where
  mapped_has : (xs : List X) (x : X) → Contains xs x → Contains (map f xs) (f x)
  mapped_has [] x there = absurd (contains_none x there)
  mapped_has (first ∷ xs) x there = elim (contains_cases first x xs there) [
    | inl same ↦ subst (λ z. Contains (f first ∷ map f xs) (f z)) same (contains_head (f first) (map f xs))
    | inr later ↦ contains_later (f first) (f x) (map f xs) (mapped_has xs x later)
  ]

  mapped_from : (xs : List X) (y : Y) → Contains (map f xs) y → (x : X) × (Contains xs x × (f x ≡ y))
  mapped_from [] y there = absurd (contains_none y there)
  mapped_from (first ∷ xs) y there = elim (contains_cases (f first) y (map f xs) there) [
    | inl same ↦ (first, (contains_head first xs, same))
    | inr later ↦ let found = mapped_from xs y later in (found.0, (contains_later first found.0 xs found.1.0, found.1.1))
  ]

  mapped_at : (xs : List X) (place : ℕ) → option_to_list (slice_get (map f xs) place) ≡ map f (option_to_list (slice_get xs place))
  mapped_at [] place = refl
  mapped_at (first ∷ xs) zero = refl
  mapped_at (first ∷ xs) (suc place) = mapped_at xs place

-- ---- edges at places

walk_one : (edges : List NamedEdge) (place : ℕ) (edge : NamedEdge) (places : List ℕ) → slice_get edges place ≡ Some edge
    → walk_at edges (place ∷ places) ≡ edge ∷ walk_at edges places
walk_one edges place edge places at = ap (λ (found : Option NamedEdge). option_to_list found ++ walk_at edges places) at

walk_both : (edges : List NamedEdge) (one other : List ℕ) → walk_at edges (one ++ other) ≡ walk_at edges one ++ walk_at edges other
walk_both edges [] other = refl
walk_both edges (place ∷ one) other =
    ap (λ (list : List NamedEdge). option_to_list (slice_get edges place) ++ list) (walk_both edges one other)
    ∙ sym (append_assoc (option_to_list (slice_get edges place)) (walk_at edges one) (walk_at edges other))

-- one more place at the end
pub walk_push : (edges : List NamedEdge) (places : List ℕ) (place : ℕ) (edge : NamedEdge) → slice_get edges place ≡ Some edge
    → walk_at edges (places ++ place ∷ []) ≡ walk_at edges places ++ edge ∷ []
walk_push edges places place edge at = walk_both edges places (place ∷ []) ∙ ap (λ (list : List NamedEdge). walk_at edges places ++ list) (walk_one edges place edge [] at)

-- at all places stand all edges
stands_behind : (front : List NamedEdge) (edge : NamedEdge) (edges : List NamedEdge) → slice_get (front ++ edge ∷ edges) (length front) ≡ Some edge
stands_behind [] edge edges = refl
stands_behind (first ∷ front) edge edges = stands_behind front edge edges

named_rest : (all front edges : List NamedEdge) (place : ℕ) → all ≡ front ++ edges → place ≡ length front → walk_at all (range_with_len place (length edges)) ≡ edges
named_rest all front [] place is at = refl
named_rest all front (edge ∷ edges) place is at =
    let here : slice_get all place ≡ Some edge =
    ap (λ (list : List NamedEdge). slice_get list place) is ∙ (ap (λ (k : ℕ). slice_get (front ++ edge ∷ edges) k) at ∙ stands_behind front edge edges) in
    walk_one all place edge (range_with_len (place + 1) (length edges)) here
    ∙ ap (λ (list : List NamedEdge). edge ∷ list)
    (named_rest all (front ++ edge ∷ []) edges (place + 1) (is ∙ sym (append_assoc front (edge ∷ []) edges)) (omega (arith, at, length_push front edge)))

named_all : (edges : List NamedEdge) → walk_at edges (range_with_len 0 (length edges)) ≡ edges
named_all edges = named_rest edges [] edges 0 refl refl

-- an edge at one of the places
named_has : (edges : List NamedEdge) (places : List ℕ) (place : ℕ) (edge : NamedEdge) → Contains places place → slice_get edges place ≡ Some edge → Contains (walk_at edges places) edge
named_has edges [] place edge there at = absurd (contains_none place there)
named_has edges (first ∷ places) place edge there at = elim (contains_cases first place places there) [
  | inl same ↦
      let found : slice_get edges first ≡ Some edge = ap (slice_get edges) same ∙ at in
      subst (λ (list : List NamedEdge). Contains list edge) (sym (walk_one edges first edge places found)) (contains_head edge (walk_at edges places))
  | inr later ↦ Contains-append_right (option_to_list (slice_get edges first)) (walk_at edges places) edge (named_has edges places place edge later at)
]

only_one : (found : Option NamedEdge) (edge : NamedEdge) → Contains (option_to_list found) edge → found ≡ Some edge
only_one None edge there = absurd (contains_none edge there)
only_one (Some other) edge there = ⊎_elim (λ same. ap Some same) (λ none. absurd (contains_none edge none)) (contains_cases other edge [] there)

named_from : (edges : List NamedEdge) (places : List ℕ) (edge : NamedEdge) → Contains (walk_at edges places) edge → (place : ℕ) × (Contains places place × (slice_get edges place ≡ Some edge))
named_from edges [] edge there = absurd (contains_none edge there)
named_from edges (first ∷ places) edge there = elim (Contains-append_cases (option_to_list (slice_get edges first)) (walk_at edges places) edge there) [
  | inl here ↦ (first, (contains_head first places, only_one (slice_get edges first) edge here))
  | inr later ↦ let found = named_from edges places edge later in (found.0, (contains_later first found.0 places found.1.0, found.1.1))
]

named_within : (edges : List NamedEdge) (places : List ℕ) (edge : NamedEdge) → Contains (walk_at edges places) edge → Contains edges edge
named_within edges places edge there = let found = named_from edges places edge there in contains_from_get edges found.0 edge found.1.1

-- ---- the same edges by numbers

module _ (points : List Point) (are : ArePoints points) where
  -- the edge between the numbers of its points
  abbrev pub numbered_edge : NamedEdge → Edge
  numbered_edge edge = record { from = number_in points edge.from; to = number_in points edge.to; gap = edge.gap }

  -- what the code numbers is so
  pub numbered_all : (edges : List NamedEdge) (numbers : List Edge) → AllZip (NumbersEdge points) edges numbers → numbers ≡ map numbered_edge edges
  numbered_all [] [] all = refl
  numbered_all [] (number ∷ numbers) all = absurd all
  numbered_all (edge ∷ edges) [] all = absurd all
  numbered_all (edge ∷ edges) (number ∷ numbers) all =
      let first = one edge number all.0 in
      let rest = numbered_all edges numbers all.1 in
      (λ i. first i ∷ rest i)
    where
      one : (edge : NamedEdge) (number : Edge) → NumbersEdge points edge number → number ≡ numbered_edge edge
      one edge number is =
          let from : number.from ≡ number_in points edge.from = sym (number_is points edge.from number.from are.order is.from) in
          let to : number.to ≡ number_in points edge.to = sym (number_is points edge.to number.to are.order is.to) in
          let gap : number.gap ≡ edge.gap = is.gap in
          (λ i. record { from = from i; to = to i; gap = gap i })

  edges_named : (edges : List NamedEdge) (places : List ℕ) → edges_at (map numbered_edge edges) places ≡ map numbered_edge (walk_at edges places)
  edges_named edges [] = refl
  edges_named edges (place ∷ places) =
      ap (λ (list : List Edge). option_to_list (slice_get (map numbered_edge edges) place) ++ list) (edges_named edges places)
      ∙ (ap (λ (list : List Edge). list ++ map numbered_edge (walk_at edges places)) (mapped_at numbered_edge edges place)
      ∙ sym (map-append numbered_edge (option_to_list (slice_get edges place)) (walk_at edges places)))

  -- ---- times

  -- the time of the point that has the number
  abbrev time_by_number : (Point → ℤ) → ℕ → ℤ
  time_by_number time number = time (get_or points number Origin)

  time_back : (time : Point → ℤ) (point : Point) → Contains points point → time_by_number time (number_in points point) ≡ time point
  time_back time point there = ap time (get_or_from_slice_get points (number_in points point) point Origin (number_stands points point there))

  scheduled : (edges : List NamedEdge) (time : Point → ℤ) → HavePoints points edges → IsTiming edges time → IsSchedule (map numbered_edge edges) (time_by_number time)
  scheduled edges time have timing = record {
    origin = ap (time_by_number time) (sym (origin_number points are)) ∙ (time_back time Origin are.origin ∙ timing.origin);
    keeps = all_from_contains (KeepsEdge (time_by_number time)) (map numbered_edge edges) (λ numbered there.
        let found = mapped_from numbered_edge edges numbered there in
        let edge = found.0 in
        let from = time_back time edge.from (have edge found.1.0).0 in
        let to = time_back time edge.to (have edge found.1.0).1 in
        let keeps = timing.keeps edge found.1.0 in
        let first : (time_by_number time (number_in points edge.from) +ℤ edge.gap) ≤ℤ time edge.to = subst (λ (t : ℤ). (t +ℤ edge.gap) ≤ℤ time edge.to) (sym from) keeps in
        let both : KeepsEdge (time_by_number time) (numbered_edge edge) =
        subst (λ (t : ℤ). (time_by_number time (number_in points edge.from) +ℤ edge.gap) ≤ℤ t) (sym to) first in
        subst (KeepsEdge (time_by_number time)) found.1.1 both);
  }

  -- a schedule of the numbers gives times
  pub timed : (edges : List NamedEdge) (value : ℕ → ℤ) → IsSchedule (map numbered_edge edges) value → IsTiming edges (λ point. value (number_in points point))
  timed edges value schedule = record {
    origin = ap value (origin_number points are) ∙ schedule.origin;
    keeps = λ edge there. All-contains (KeepsEdge value) (map numbered_edge edges) (numbered_edge edge) schedule.keeps (mapped_has numbered_edge edges edge there);
  }

  pub none_named : (edges : List NamedEdge) → HavePoints points edges → HasNoSchedule (map numbered_edge edges) → HasNoTiming edges
  none_named edges have none = λ time timing. none (time_by_number time) (scheduled edges time have timing)

  none_numbered : (edges : List NamedEdge) → HasNoTiming edges → HasNoSchedule (map numbered_edge edges)
  none_numbered edges none = λ value schedule. none (λ point. value (number_in points point)) (timed edges value schedule)

  -- ---- what is left

  module _ (edges : List NamedEdge) (have : HavePoints points edges) where
    have_at : (places : List ℕ) → HavePoints points (walk_at edges places)
    have_at places = λ edge there. have edge (named_within edges places edge there)

    -- there is no schedule at these places and those behind them exactly where there are no times
    at_both : (kept rest : List ℕ) → edges_at (map numbered_edge edges) (kept ++ rest) ≡ map numbered_edge (walk_at edges kept ++ walk_at edges rest)
    at_both kept rest = edges_named edges (kept ++ rest) ∙ ap (map numbered_edge) (walk_both edges kept rest)

    have_both : (kept rest : List ℕ) → HavePoints points (walk_at edges kept ++ walk_at edges rest)
    have_both kept rest = subst (HavePoints points) (walk_both edges kept rest) (have_at (kept ++ rest))

    left_named : (kept places left : List ℕ) → ((place : ℕ) → Contains places place → place < length edges)
        → LeavesAfter (map numbered_edge edges) kept places left → LeavesBy (walk_at edges kept) (walk_at edges places) (walk_at edges left)
    left_named kept [] left within same = ap (walk_at edges) same
    left_named kept (place ∷ places) left within (inl goes) =
        let found = get_within edges place (within place (contains_head place places)) in
        let none = none_named (walk_at edges kept ++ walk_at edges places) (have_both kept places) (subst HasNoSchedule (at_both kept places) goes.0) in
        let rest = left_named kept places left (λ other there. within other (contains_later place other places there)) goes.1 in
        subst (λ (list : List NamedEdge). LeavesBy (walk_at edges kept) list (walk_at edges left)) (sym (walk_one edges place found.0 places found.1)) (inl (none, rest))
    left_named kept (place ∷ places) left within (inr stays) =
        let found = get_within edges place (within place (contains_head place places)) in
        let rest = left_named (kept ++ place ∷ []) places left (λ other there. within other (contains_later place other places there)) stays.1 in
        let longer = subst (λ (list : List NamedEdge). LeavesBy list (walk_at edges places) (walk_at edges left)) (walk_push edges kept place found.0 found.1) rest in
        subst (λ (list : List NamedEdge). LeavesBy (walk_at edges kept) list (walk_at edges left)) (sym (walk_one edges place found.0 places found.1))
        (inr ((λ none. stays.0 (subst HasNoSchedule (sym (at_both kept places)) (none_numbered (walk_at edges kept ++ walk_at edges places) none))), longer))

    -- ---- the walk

    leads_named : (from : Point) (list : List NamedEdge) (to : Point) → HavePoints points list → Contains points from → Contains points to
        → LeadsFrom (number_in points from) (map numbered_edge list) (number_in points to) → LeadsAlong from list to
    leads_named from [] to have_list has_from has_to same = number_same points from to has_from has_to same
    leads_named from (edge ∷ list) to have_list has_from has_to leads =
        let ends = have_list edge (contains_head edge list) in (
          number_same points edge.from from ends.0 has_from leads.0,
          leads_named edge.to list to (λ other there. have_list other (contains_later edge other list there)) ends.1 has_to leads.1,
        )

    round_named : (list : List NamedEdge) → HavePoints points list → LeadsBack (map numbered_edge list) → LeadsRound list
    round_named [] have_list back = back
    round_named (edge ∷ list) have_list back =
        let ends = have_list edge (contains_head edge list) in
        leads_named edge.to list edge.from (λ other there. have_list other (contains_later edge other list there)) ends.1 ends.0 back

    once_named : (list : List NamedEdge) → IsSimple (map numbered_edge list) → PassesOnce list
    once_named [] simple = ordered_none (λ one later. later.from ≢ one.from)
    once_named (edge ∷ list) simple =
        ordered_cons (λ one later. later.from ≢ one.from) edge list
        (λ other there same. All-contains (λ (later : Edge). later.from ≢ number_in points edge.from) (map numbered_edge list) (numbered_edge other) simple.0
        (mapped_has numbered_edge list other there) (ap (number_in points) same))
        (once_named list simple.1)

    gaps_named : (list : List NamedEdge) → gap_sum (map numbered_edge list) ≡ gaps_of list
    gaps_named [] = refl
    gaps_named (edge ∷ list) = ap (λ (sum : ℤ). edge.gap +ℤ sum) (gaps_named list)

    first_named : (list : List NamedEdge) → HavePoints points list → BeginsLeast (map numbered_edge list) → BeginsFirst list
    first_named [] have_list least = least
    first_named (edge ∷ list) have_list least = λ other there.
        number_orders points edge.from other.from are.order (have_list edge (contains_head edge list)).0 (have_list other (contains_later edge other list there)).0
        (All-contains (λ (later : Edge). number_in points edge.from ≤ later.from) (map numbered_edge list) (numbered_edge other) least (mapped_has numbered_edge list other there))

    -- the canonical cycle of the numbers is that of the points
    pub round_is : (places : List ℕ) → IsCanonicalCycle (map numbered_edge edges) places → IsCanonicalRound edges (walk_at edges places)
    round_is places cycle =
        let at = edges_named edges places in
        let list = walk_at edges places in
        let have_list = have_at places in
        record {
          left = walk_at edges cycle.left;
          leaves = leaves;
          same = λ edge. (onto edge, back edge);
          leads = round_named list have_list (subst LeadsBack at cycle.cycle.closed);
          once = once_named list (subst IsSimple at cycle.cycle.simple);
          positive = subst (λ (sum : ℤ). pos 0 <ℤ sum) (gaps_named list) (subst (λ (numbers : List Edge). pos 0 <ℤ gap_sum numbers) at cycle.cycle.positive);
          first = first_named list have_list (subst BeginsLeast at cycle.first);
        }
      where
        onto : (edge : NamedEdge) → Contains (walk_at edges places) edge → Contains (walk_at edges cycle.left) edge
        onto edge there = let found = named_from edges places edge there in named_has edges cycle.left found.0 edge ((cycle.same found.0).0 found.1.0) found.1.1

        back : (edge : NamedEdge) → Contains (walk_at edges cycle.left) edge → Contains (walk_at edges places) edge
        back edge there = let found = named_from edges cycle.left edge there in named_has edges places found.0 edge ((cycle.same found.0).1 found.1.0) found.1.1

        leaves : LeavesBy [] edges (walk_at edges cycle.left)
        leaves =
            let counted = subst (λ (count : ℕ). LeavesAfter (map numbered_edge edges) [] (range_with_len 0 count) cycle.left) (length-map edges numbered_edge) cycle.leaves in
            let named = left_named [] (range_with_len 0 (length edges)) cycle.left
            (λ place there. omega (arith, (range_bounds 0 (length edges) place there).1)) counted in
            subst (λ (list : List NamedEdge). LeavesBy [] list (walk_at edges cycle.left)) (named_all edges) named

    -- ---- what is found

    module _ (numbers : List Edge) (all : AllZip (NumbersEdge points) edges numbers) where
      numbers_are : numbers ≡ map numbered_edge edges
      numbers_are = numbered_all edges numbers all

      pub count_same : length numbers ≡ length edges
      count_same = ap length numbers_are ∙ length-map edges numbered_edge

      -- where there is a schedule, there is no cycle
      pub found_none : (cycle : List NamedEdge) → (value : ℕ → ℤ) × IsSchedule numbers value → cycle ≡ [] → IsTimeCycle edges cycle
      found_none cycle schedule none =
          inl (((λ point. schedule.0 (number_in points point)), timed edges schedule.0 (subst (λ (list : List Edge). IsSchedule list schedule.0) numbers_are schedule.1)), none)

      -- and where there is none, the cycle of the numbers is that of the points
      pub found_round : (places : List ℕ) (cycle : List NamedEdge) → HasNoSchedule numbers × IsCanonicalCycle numbers places → cycle ≡ walk_at edges places → IsTimeCycle edges cycle
      found_round places cycle found is =
          inr (
            none_named edges have (subst HasNoSchedule numbers_are found.0),
            subst (IsCanonicalRound edges) (sym is) (round_is places (subst (λ (list : List Edge). IsCanonicalCycle list places) numbers_are found.1)),
          )

      -- each place of it is that of an edge
      pub found_within : (places : List ℕ) → IsCanonicalCycle numbers places → All (λ place. place < length edges) places
      found_within places cycle = subst (λ (count : ℕ). All (λ place. place < count) places) count_same cycle.cycle.within
