-- Edges left out, each with an idle one in its place.
use Rattle.std.proofs.Common.{◌≡◌, ◌≢◌, ℕ, ◌+◌, ◌-◌, ◌<◌, ◌≤◌, ℤ, pos, inl, inr, ⊎_elim, Bool, MatchBool, List, [], ◌∷◌, ◌++◌, length, get_or, set, sym, ap, ◌∙◌, subst, arith}
use Rattle.std.specs.Prelude.{Contains, All}
use Rattle.std.proofs.lemmas.Int.{ints}
use Rattle.std.specs.List.{range_with_len}
use Rattle.std.proofs.lemmas.List.{append_assoc, length-append, length-set, get_or-set_same, get_or-set_other, get_or_append_left, get_or_at}
use Rattle.std.proofs.lemmas.Bool.{cases_eq, cases_lt}
use Rattle.std.proofs.lemmas.Option.{slice_get-get_or, get_or_from_slice_get}
use Rattle.std.proofs.lemmas.List.Elements.{All-nil, All-push, All-weaker, All-contains, Contains-append_left, Contains-append_right, Contains-append_cases, Contains-push, Contains-push_cases, Contains-get_or}
use Rattle.temporal_core.specs.declared.edges.Edge.{Edge}
use Rattle.temporal_core.specs.declared.satisfied.Satisfied.{Satisfied}
use Rattle.temporal_core.specs.Network.{IsEdge}
use Rattle.temporal_core.specs.Schedule.{KeepsEdge, IsSchedule, HasNoSchedule}
use Rattle.temporal_core.specs.Cycle.{edges_at, LeavesAfter, LeavesNeeded}
use Rattle.temporal_core.specs.Satisfied.{value_at, IsGraph, AreKept, IsSatisfiedGraph, HasPositiveCycle}
use Rattle.temporal_core.specs.Canonical.{edge_at, idle_edge, missing, places_from, Stays, IsThinned, HasNoneFrom, HasSomeFrom, IsNextNeeded}
use Rattle.temporal_core.proofs.Members.{all_from_contains}
use Rattle.eu_name.proofs.Members.{get_from_contains, get_below}
use Rattle.temporal_core.proofs.Walks.{none_keeps, Contains-cons_cases}
use Rattle.temporal_core.proofs.Satisfying.{satisfied_modest}
use Rattle.temporal_core.proofs.Leaving.{edges_at-contains, edges_at-stands, none_at_more, Contains-places_from, places_from_bounds, places_from-next, leaves_next, leaves_rest}

abbrev no_edge : Edge
no_edge = record { from = 0; to = 0; gap = pos 0 }

-- what holds of the edge at each place holds of all
all_at : (P : Edge → Type 0) (list : List Edge) → ((place : ℕ) → place < length list → P (edge_at list place)) → All P list
all_at P list each = all_from_contains P list (λ edge among.
    let found = get_from_contains list edge among in
    subst P (get_or_from_slice_get list found.0 edge no_edge found.1) (each found.0 (get_below list found.0 edge found.1)))

pub at_place : (P : Edge → Type 0) (list : List Edge) (place : ℕ) → All P list → place < length list → P (edge_at list place)
at_place P list place all within = all place (record { from = 0; to = 0; gap = pos 0 }) within

idle_keeps : (value : ℕ → ℤ) (edge : Edge) → KeepsEdge value (idle_edge edge)
idle_keeps value edge = omega (arith, ints)

pub idle_joins : (points : ℕ) (edge : Edge) → IsEdge points edge → IsEdge points (idle_edge edge)
idle_joins points edge joins = record { from = joins.from; to = joins.from; low = omega (arith, ints); high = omega (arith, ints) }

pub missing_kept : (kept : List ℕ) → 0 < length kept → Contains kept (missing kept)
missing_kept kept some = Contains-get_or kept 0 0 some

pub missing_before : (kept : List ℕ) (first : ℕ) → 0 < length kept → All (λ place. place < first) kept → missing kept < first
missing_before kept first some before = before 0 0 some

-- places that stay, by their list
stays_among : (kept : List ℕ) (first count place : ℕ) → place < count → Stays kept first place → Contains (kept ++ places_from first count) place
stays_among kept first count place within stays =
    ⊎_elim
    (λ in_kept. Contains-append_left kept (places_from first count) place in_kept)
    (λ later. Contains-append_right kept (places_from first count) place (Contains-places_from first count place later within))
    stays

among_stays : (kept : List ℕ) (first count place : ℕ) → Contains (kept ++ places_from first count) place → Stays kept first place
among_stays kept first count place among =
    ⊎_elim
    (λ in_kept. inl in_kept)
    (λ in_rest. inr (places_from_bounds first count place in_rest).0)
    (Contains-append_cases kept (places_from first count) place among)

module _ (points : ℕ) (edges : List Edge) (kept : List ℕ) (first : ℕ) (thinned : Satisfied) (is : IsThinned points edges kept first thinned) where
  -- each edge begins where the one in its place does
  pub same_from : (place : ℕ) → place < length edges → (edge_at edges place).from ≡ (edge_at thinned.graph.edges.items place).from
  same_from place within =
      ⊎_elim
      (λ idle. sym (ap (λ (e : Edge). e.from) idle))
      (λ stays. sym (ap (λ (e : Edge). e.from) stays.2))
      (is.each place within)

  -- the values keep the edges of the graph
  pub thinned_values : AreKept points thinned.graph.edges.items thinned.values.items
  thinned_values = record {
    few = is.values.few;
    count = is.values.count;
    keeps = all_at (KeepsEdge (value_at thinned.values.items)) thinned.graph.edges.items (λ place below.
        let within : place < length edges = omega (arith, is.count) in
        ⊎_elim
        (λ idle. subst (KeepsEdge (value_at thinned.values.items)) (sym idle) (idle_keeps (value_at thinned.values.items) (edge_at edges place)))
        (λ stays. subst (KeepsEdge (value_at thinned.values.items)) (sym stays.2) (is.keeps place stays.0 within))
        (is.each place within));
    low = is.values.low;
    high = is.values.high;
  }

  module _ (some : 0 < length kept) (within : missing kept < length edges) where
    -- what a schedule of the edges that stay keeps
    keeps_thinned : (value : ℕ → ℤ) → IsSchedule (edges_at edges (kept ++ places_from first (length edges))) value → All (KeepsEdge value) (thinned.graph.edges.items ++ edge_at edges (missing kept) ∷ [])
    keeps_thinned value schedule =
        let places = kept ++ places_from first (length edges) in
        let keeps_at : (place : ℕ) → place < length edges → Contains places place → KeepsEdge value (edge_at edges place) =
        λ place below among. All-contains (KeepsEdge value) (edges_at edges places) (edge_at edges place) schedule.keeps
        (edges_at-contains edges places place (edge_at edges place) among (slice_get-get_or edges place no_edge below)) in
        All-push (KeepsEdge value) thinned.graph.edges.items (edge_at edges (missing kept))
        (all_at (KeepsEdge value) thinned.graph.edges.items (λ place below.
        let inside : place < length edges = omega (arith, is.count) in
        ⊎_elim
        (λ idle. subst (KeepsEdge value) (sym idle) (idle_keeps value (edge_at edges place)))
        (λ stays. subst (KeepsEdge value) (sym stays.2) (keeps_at place inside (stays_among kept first (length edges) place inside stays.1)))
        (is.each place inside)))
        (keeps_at (missing kept) within (Contains-append_left kept (places_from first (length edges)) (missing kept) (missing_kept kept some)))

    pub none_thinned : HasPositiveCycle (thinned.graph.edges.items ++ edge_at edges (missing kept) ∷ []) → HasNoneFrom edges kept first
    none_thinned found = λ value schedule. none_keeps value (thinned.graph.edges.items ++ edge_at edges (missing kept) ∷ []) (keeps_thinned value schedule) found

    pub some_thinned : (value : ℕ → ℤ) × IsSchedule (thinned.graph.edges.items ++ edge_at edges (missing kept) ∷ []) value → HasSomeFrom edges kept first
    some_thinned found =
        let value = found.0 in
        let list = thinned.graph.edges.items in
        let last = edge_at edges (missing kept) in
        let keeps : (edge : Edge) → Contains (list ++ last ∷ []) edge → KeepsEdge value edge = λ edge among. All-contains (KeepsEdge value) (list ++ last ∷ []) edge found.1.keeps among in
        let here : (place : ℕ) → place < length edges → Stays kept first place → KeepsEdge value (edge_at edges place) =
        λ place below stays.
        ⊎_elim
        (λ left. subst (λ k. KeepsEdge value (edge_at edges k)) (sym left) (keeps last (Contains-push list last)))
        (λ same. subst (KeepsEdge value) same (keeps (edge_at list place) (Contains-append_left list (last ∷ []) (edge_at list place) (Contains-get_or list place no_edge (omega (arith, is.count))))))
        (is.stays place below stays) in (
          value,
          record {
            origin = found.1.origin;
            keeps = all_from_contains (KeepsEdge value) (edges_at edges (kept ++ places_from first (length edges))) (λ edge among.
                let at = edges_at-stands edges (kept ++ places_from first (length edges)) edge among in
                subst (KeepsEdge value) (get_or_from_slice_get edges at.place edge no_edge at.at)
                (here at.place (get_below edges at.place edge at.at) (among_stays kept first (length edges) at.place at.among)));
          },
        )

-- an edge of the graph is replaced
module _ (points : ℕ) (edges : List Edge) (kept : List ℕ) (place : ℕ) (within : place < length edges) (old new : Satisfied) (values : new.values.items ≡ old.values.items) where
  -- it is left out
  pub left_out : All (λ other. other < place) kept → IsThinned points edges kept place old
      → IsGraph points (set old.graph.edges.items place (idle_edge (edge_at edges place))) new.graph → IsThinned points edges kept (place + 1) new
  left_out before is graph =
      let list = old.graph.edges.items in
      let idle = idle_edge (edge_at edges place) in
      let below : place < length list = omega (arith, is.count) in
      let here : edge_at new.graph.edges.items place ≡ idle = ap (λ items. get_or items place no_edge) graph.list ∙ get_or-set_same list place idle no_edge below in
      let apart : (other : ℕ) → other ≢ place → edge_at new.graph.edges.items other ≡ edge_at list other =
      λ other differs. ap (λ items. get_or items other no_edge) graph.list ∙ get_or-set_other list place other idle no_edge differs in
      record {
        joins = is.joins;
        graph = subst (λ items. IsGraph points items new.graph) (sym graph.list) graph;
        values = subst (AreKept points []) (sym values) is.values;
        keeps = λ other after inside. subst (λ items. KeepsEdge (value_at items) (edge_at edges other)) (sym values) (is.keeps other after inside);
        count = ap length graph.list ∙ length-set list place idle ∙ is.count;
        each = λ other inside.
            ⊎_elim
            (λ same. inl (subst (λ k. edge_at new.graph.edges.items k ≡ idle_edge (edge_at edges k)) (sym same) here))
            (λ differs.
            ⊎_elim
            (λ out. inl (apart other differs ∙ out))
            (λ stays. inr (stays.0, ⊎_elim (λ in_kept. inl in_kept) (λ later. inr (omega arith)) stays.1, apart other differs ∙ stays.2))
            (is.each other inside))
            (cases_eq other place);
        stays = λ other inside stays.
            let differs : other ≢ place = ⊎_elim (λ in_kept same. let less = All-contains (λ k. k < place) kept other before in_kept in omega arith) (λ later same. omega arith) stays in
            ⊎_elim
            (λ left. inl left)
            (λ same. inr (apart other differs ∙ same))
            (is.stays other inside (⊎_elim (λ in_kept. inl in_kept) (λ later. inr (omega arith)) stays));
      }

  -- it is put back
  pub back : missing kept < place → IsThinned points edges kept (place + 1) old
      → IsGraph points (set old.graph.edges.items place (edge_at edges place)) new.graph → IsThinned points edges kept place new
  back after_missing is graph =
      let list = old.graph.edges.items in
      let edge = edge_at edges place in
      let below : place < length list = omega (arith, is.count) in
      let here : edge_at new.graph.edges.items place ≡ edge = ap (λ items. get_or items place no_edge) graph.list ∙ get_or-set_same list place edge no_edge below in
      let apart : (other : ℕ) → other ≢ place → edge_at new.graph.edges.items other ≡ edge_at list other =
      λ other differs. ap (λ items. get_or items other no_edge) graph.list ∙ get_or-set_other list place other edge no_edge differs in
      let same_here : (other : ℕ) → other ≡ place → edge_at new.graph.edges.items other ≡ edge_at edges other =
      λ other same. subst (λ k. edge_at new.graph.edges.items k ≡ edge_at edges k) (sym same) here in
      record {
        joins = is.joins;
        graph = subst (λ items. IsGraph points items new.graph) (sym graph.list) graph;
        values = subst (AreKept points []) (sym values) is.values;
        keeps = λ other after inside. subst (λ items. KeepsEdge (value_at items) (edge_at edges other)) (sym values) (is.keeps other after inside);
        count = ap length graph.list ∙ length-set list place edge ∙ is.count;
        each = λ other inside.
            ⊎_elim
            (λ same. inr (omega arith, inr (omega arith), same_here other same))
            (λ differs.
            ⊎_elim
            (λ out. inl (apart other differs ∙ out))
            (λ stays. inr (stays.0, ⊎_elim (λ in_kept. inl in_kept) (λ later. inr (omega arith)) stays.1, apart other differs ∙ stays.2))
            (is.each other inside))
            (cases_eq other place);
        stays = λ other inside stays.
            ⊎_elim
            (λ same. inr (same_here other same))
            (λ differs.
            ⊎_elim
            (λ left. inl left)
            (λ same. inr (apart other differs ∙ same))
            (is.stays other inside (⊎_elim (λ in_kept. inl in_kept) (λ later. inr (omega arith)) stays)))
            (cases_eq other place);
      }

-- the next place stays
pub stays_next : (points : ℕ) (edges : List Edge) (kept : List ℕ) (place : ℕ) (thinned : Satisfied) → 0 < length kept → IsThinned points edges kept place thinned
    → IsThinned points edges (kept ++ place ∷ []) (place + 1) thinned
stays_next points edges kept place thinned some is =
    let same : missing (kept ++ place ∷ []) ≡ missing kept = get_or_append_left kept (place ∷ []) 0 0 some in
    let more : (other : ℕ) → Stays kept place other → Stays (kept ++ place ∷ []) (place + 1) other =
    λ other stays.
    ⊎_elim
    (λ in_kept. inl (Contains-append_left kept (place ∷ []) other in_kept))
    (λ later. ⊎_elim (λ it. inl (subst (Contains (kept ++ place ∷ [])) (sym it) (Contains-push kept place))) (λ differs. inr (omega arith)) (cases_eq other place))
    stays in
    record {
      joins = is.joins;
      graph = is.graph;
      values = is.values;
      keeps = λ other after inside. is.keeps other (subst (λ k. k < other) same after) inside;
      count = is.count;
      each = λ other inside.
          ⊎_elim
          (λ out. inl out)
          (λ stays. inr (subst (λ k. k < other) (sym same) stays.0, more other stays.1, stays.2))
          (is.each other inside);
      stays = λ other inside stays.
          ⊎_elim
          (λ left. inl (left ∙ sym same))
          (λ there. inr there)
          (is.stays other inside
          (⊎_elim (λ in_kept. ⊎_elim (λ old. inl old) (λ it. inr (omega arith)) (Contains-push_cases kept place other in_kept)) (λ later. inr (omega arith)) stays));
    }

-- values that keep the edges behind the first needed one
module _ (points : ℕ) (edges : List Edge) (first : ℕ) (thin : List Edge) (count : length thin ≡ length edges)
    (idle : (place : ℕ) → place ≤ first → place < length edges → edge_at thin place ≡ idle_edge (edge_at edges place))
    (behind : (place : ℕ) → first < place → place < length edges → edge_at thin place ≡ edge_at edges place) where
  pub thin_joins : All (IsEdge points) edges → All (IsEdge points) thin
  thin_joins joins = all_at (IsEdge points) thin (λ place below.
      let within : place < length edges = omega (arith, count) in
      ⊎_elim
      (λ after. subst (IsEdge points) (sym (behind place after within)) (at_place (IsEdge points) edges place joins within))
      (λ not. subst (IsEdge points) (sym (idle place (omega arith) within)) (idle_joins points (edge_at edges place) (at_place (IsEdge points) edges place joins within)))
      (cases_lt first place))

  pub thinned_at_first : All (IsEdge points) edges → (thinned : Satisfied) → IsSatisfiedGraph points thin thinned → IsThinned points edges (first ∷ []) (first + 1) thinned
  thinned_at_first joins thinned satisfied = record {
    joins = joins;
    graph = subst (λ items. IsGraph points items thinned.graph) (sym satisfied.graph.list) satisfied.graph;
    values = record {
      few = satisfied.few;
      count = satisfied.values.count;
      keeps = All-nil (KeepsEdge (value_at thinned.values.items));
      low = satisfied.values.low;
      high = satisfied_modest points thin thinned.values.items satisfied.few satisfied.graph.each satisfied.values;
    };
    keeps = λ place after within. subst (KeepsEdge (value_at thinned.values.items)) (behind place after within)
        (at_place (KeepsEdge (value_at thinned.values.items)) thin place satisfied.values.keeps (omega (arith, count)));
    count = ap length satisfied.graph.list ∙ count;
    each = λ place within.
        ⊎_elim
        (λ after. inr (after, inr (omega arith), listed place ∙ behind place after within))
        (λ not. inl (listed place ∙ idle place (omega arith) within))
        (cases_lt first place);
    stays = λ place within stays.
        ⊎_elim
        (λ in_kept. inl (⊎_elim (λ same. sym same) (λ none. absurd (omega (arith, none.1))) (Contains-cons_cases first [] place in_kept)))
        (λ later. inr (listed place ∙ behind place (omega arith) within))
        stays;
  }
    where
      listed : (place : ℕ) → edge_at thinned.graph.edges.items place ≡ edge_at thin place
      listed place = ap (λ items. edge_at items place) satisfied.graph.list

  -- they have a schedule
  pub thin_fits : IsNextNeeded edges [] 0 first → HasPositiveCycle thin → ⊥
  thin_fits needed found =
      let value = needed.some.0 in
      let places = places_from (first + 1) (length edges) in
      none_keeps value thin
      (all_at (KeepsEdge value) thin (λ place below.
      let within : place < length edges = omega (arith, count) in
      ⊎_elim
      (λ after. subst (KeepsEdge value) (sym (behind place after within))
      (All-contains (KeepsEdge value) (edges_at edges places) (edge_at edges place) needed.some.1.keeps
      (edges_at-contains edges places place (edge_at edges place) (Contains-places_from (first + 1) (length edges) place (omega arith) within) (slice_get-get_or edges place no_edge within))))
      (λ not. subst (KeepsEdge value) (sym (idle place (omega arith) within)) (idle_keeps value (edge_at edges place)))
      (cases_lt first place)))
      found

-- so far a list has the edges behind the last place, and idle ones before
pub record IsBehind (edges : List Edge) (last place : ℕ) (thin : List Edge) : Type 0 where
  pub count : length thin ≡ place
  pub idle : (other : ℕ) → other ≤ last → other < place → edge_at thin other ≡ idle_edge (edge_at edges other)
  pub behind : (other : ℕ) → last < other → other < place → edge_at thin other ≡ edge_at edges other

pub behind_more : (edges : List Edge) (last place : ℕ) (thin : List Edge) (edge : Edge) → IsBehind edges last place thin
    → (place ≤ last → edge ≡ idle_edge (edge_at edges place)) → (last < place → edge ≡ edge_at edges place) → IsBehind edges last (place + 1) (thin ++ edge ∷ [])
behind_more edges last place thin edge is idle behind = record {
  count = length-append thin (edge ∷ []) ∙ ap (λ n. n + 1) is.count;
  idle = λ other before within.
      ⊎_elim
      (λ same. here other same ∙ idle (omega arith) ∙ ap (λ k. idle_edge (edge_at edges k)) (sym same))
      (λ differs. there other (omega arith) ∙ is.idle other before (omega arith))
      (cases_eq other place);
  behind = λ other after within.
      ⊎_elim
      (λ same. here other same ∙ behind (omega arith) ∙ ap (edge_at edges) (sym same))
      (λ differs. there other (omega arith) ∙ is.behind other after (omega arith))
      (cases_eq other place);
}
  where
    here : (other : ℕ) → other ≡ place → edge_at (thin ++ edge ∷ []) other ≡ edge
    here other same = get_or_at thin edge [] no_edge other (is.count ∙ sym same)

    there : (other : ℕ) → other < place → edge_at (thin ++ edge ∷ []) other ≡ edge_at thin other
    there other below = get_or_append_left thin (edge ∷ []) no_edge other (omega (arith, is.count))

pub behind_none : (edges : List Edge) (last : ℕ) (thin : List Edge) → thin ≡ [] → IsBehind edges last 0 thin
behind_none edges last thin none = record {
  count = ap length none;
  idle = λ other before within. absurd (omega arith);
  behind = λ other after within. absurd (omega arith);
}

-- the points are as many as the values
pub own_points : (points : ℕ) (edges : List Edge) (kept : List ℕ) (first : ℕ) (thinned : Satisfied) → IsThinned points edges kept first thinned → IsThinned (length thinned.values.items) edges kept first thinned
own_points points edges kept first thinned is = subst (λ n. IsThinned n edges kept first thinned) (sym is.values.count) is

-- from where no places are left those that stay have no schedule alone
pub none_alone : (edges : List Edge) (kept : List ℕ) (first : ℕ) → length edges ≤ first → HasNoneFrom edges kept first → HasNoSchedule (edges_at edges kept)
none_alone edges kept first past none =
    none_at_more edges (kept ++ places_from first (length edges)) kept
    (λ place among.
    ⊎_elim
    (λ in_kept. in_kept)
    (λ in_rest. let is = places_from_bounds first (length edges) place in_rest in absurd (omega (arith, is.0, is.1)))
    (Contains-append_cases kept (places_from first (length edges)) place among))
    none

-- what a call leaves, at the points that there were before
pub as_before : (points now : ℕ) (edges : List Edge) (kept : List ℕ) (first end : ℕ) (thinned : Satisfied) (done : Bool) → now ≡ points
    → MatchBool done (IsThinned now edges kept end thinned) (IsThinned now edges kept first thinned)
    → MatchBool done (IsThinned points edges kept end thinned) (IsThinned points edges kept first thinned)
as_before points now edges kept first end thinned done same = subst (λ n. MatchBool done (IsThinned n edges kept end thinned) (IsThinned n edges kept first thinned)) same

-- what stays so far: whatever is left from here on is left of all
pub record IsLeaving (points : ℕ) (edges : List Edge) (kept : List ℕ) (next : ℕ) (thinned : Satisfied) : Type 0 where
  pub some : 0 < length kept
  pub before : All (λ place. place < next) kept
  pub within : next ≤ length edges
  pub thinned_next : IsThinned points edges kept next thinned
  pub none : HasNoneFrom edges kept next
  pub leaves : (left : List ℕ) → LeavesAfter edges kept (places_from next (length edges)) left → LeavesNeeded edges left

-- the next needed edge is the first of what is left
none_with : (edges : List Edge) (kept : List ℕ) (place : ℕ) → place < length edges → HasNoneFrom edges kept place → HasNoneFrom edges (kept ++ place ∷ []) (place + 1)
none_with edges kept place within none =
    let rest = places_from (place + 1) (length edges) in
    let moved : kept ++ places_from place (length edges) ≡ (kept ++ place ∷ []) ++ rest =
    ap (λ list. kept ++ list) (places_from-next place (length edges) within) ∙ sym (append_assoc kept (place ∷ []) rest) in
    subst (λ list. HasNoSchedule (edges_at edges list)) moved none

pub leaving_first : (points : ℕ) (edges : List Edge) (first : ℕ) (thinned : Satisfied) → IsNextNeeded edges [] 0 first
    → IsThinned points edges (first ∷ []) (first + 1) thinned → IsLeaving points edges (first ∷ []) (first + 1) thinned
leaving_first points edges first thinned needed is = record {
  some = omega arith;
  before = All-push (λ place. place < first + 1) [] first (All-nil (λ place. place < first + 1)) (omega arith);
  within = omega (arith, needed.within);
  thinned_next = is;
  none = none_with edges [] first needed.within needed.none;
  leaves = λ left leaves.
      subst (λ n. LeavesAfter edges [] (range_with_len 0 n) left) (let e : length edges - 0 ≡ length edges = omega arith in e)
      (leaves_next edges [] left 0 first needed.after needed.within needed.none needed.some leaves);
}

pub leaving_next : (points : ℕ) (edges : List Edge) (kept : List ℕ) (next : ℕ) (old : Satisfied) → IsLeaving points edges kept next old → (place : ℕ) → IsNextNeeded edges kept next place
    → (new : Satisfied) → IsThinned points edges kept place new → IsLeaving points edges (kept ++ place ∷ []) (place + 1) new
leaving_next points edges kept next old leaving place needed new is = record {
  some = omega (arith, length-append kept (place ∷ []), leaving.some);
  before = All-push (λ k. k < place + 1) kept place (All-weaker (λ k. k < next) (λ k. k < place + 1) (λ k less. omega (arith, needed.after)) kept leaving.before) (omega arith);
  within = omega (arith, needed.within);
  thinned_next = stays_next points edges kept place new leaving.some is;
  none = none_with edges kept place needed.within needed.none;
  leaves = λ left leaves. leaving.leaves left (leaves_next edges kept left next place needed.after needed.within needed.none needed.some leaves);
}

-- at the end all that stay are needed
pub leaving_all : (points : ℕ) (edges : List Edge) (kept : List ℕ) (next : ℕ) (thinned : Satisfied) → IsLeaving points edges kept next thinned → HasNoSchedule (edges_at edges kept) → LeavesNeeded edges kept
leaving_all points edges kept next thinned leaving none = leaving.leaves kept (leaves_rest edges kept (places_from next (length edges)) none)
