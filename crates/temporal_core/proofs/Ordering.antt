-- The places that are left, in the order of their cycle.
use Rattle.std.proofs.Common.{◌≡◌, ◌≢◌, ℕ, ◌<◌, ◌≤◌, pos, ◌↔◌, ◌⊎◌, inl, inr, ⊎_elim, List, [], ◌∷◌, ◌++◌, length, refl, sym, ap, ◌∙◌, subst, arith}
use Rattle.std.specs.Prelude.{Contains, All, option_to_list}
use Rattle.std.specs.List.{range_with_len}
use Rattle.std.proofs.lemmas.Int.{ints}
use Rattle.std.proofs.lemmas.Option.{slice_get-get_or, get_or_from_slice_get}
use Rattle.std.proofs.lemmas.Bool.{cases_eq, cases_lt}
use Rattle.std.proofs.lemmas.List.Elements.{All-nil, All-cons, All-append, All-weaker, All-contains, Contains-append_left, Contains-append_right, Contains-append_cases}
use Rattle.temporal_core.specs.declared.edges.Edge.{Edge}
use Rattle.temporal_core.specs.Schedule.{HasNoSchedule}
use Rattle.temporal_core.specs.Cycle.{edges_at, gap_sum, LeadsFrom, LeadsBack, IsSimple, BeginsLeast}
use Rattle.temporal_core.specs.Canonical.{edge_at, AreNeeded, IsCycleOf}
use Rattle.temporal_core.proofs.Members.{all_from_contains}
use Rattle.temporal_core.proofs.Raising.{gap_sum-append}
use Rattle.temporal_core.proofs.Walks.{Contains-head, Contains-tail, Contains-cons_cases, LeadsFrom-append, closed_leads, no_schedule}
use Rattle.temporal_core.proofs.Needed.{edges_at-append}
use Rattle.temporal_core.proofs.Leaving.{edges_at-stands, each_needed}

-- places at which these edges stand
record Chosen (edges : List Edge) (kept : List ℕ) (cycle : List Edge) : Type 0 where
  places : List ℕ
  are : edges_at edges places ≡ cycle
  in_kept : (place : ℕ) → Contains places place → Contains kept place

choose : (edges : List Edge) (kept : List ℕ) (cycle : List Edge) → ((edge : Edge) → Contains cycle edge → Contains (edges_at edges kept) edge) → Chosen edges kept cycle
choose edges kept [] within = record { places = []; are = refl; in_kept = λ place among. absurd (omega (arith, among.1)) }
choose edges kept (edge ∷ cycle) within =
    let here = edges_at-stands edges kept edge (within edge (Contains-head edge cycle)) in
    let rest = choose edges kept cycle (λ other among. within other (Contains-tail edge cycle other among)) in
    record {
      places = here.place ∷ rest.places;
      are = ap (λ o. option_to_list o ++ edges_at edges rest.places) here.at ∙ ap (λ list. edge ∷ list) rest.are;
      in_kept = λ place among. ⊎_elim (λ same. subst (Contains kept) same here.among) (λ later. rest.in_kept place later) (Contains-cons_cases here.place rest.places place among);
    }

decide_contains : (xs : List ℕ) (x : ℕ) → Contains xs x ⊎ (Contains xs x → ⊥)
decide_contains [] x = inr (λ among. omega (arith, among.1))
decide_contains (y ∷ xs) x =
    ⊎_elim (λ same. inl (subst (Contains (y ∷ xs)) same (Contains-head y xs)))
    (λ apart. ⊎_elim (λ later. inl (Contains-tail y xs x later)) (λ none. inr (λ among. ⊎_elim apart none (Contains-cons_cases y xs x among))) (decide_contains xs x))
    (cases_eq y x)

-- edges in two parts begin at different points where both parts do, and none of one begins with one of the other
record AreApart (one other : List Edge) : Type 0 where
  left : IsSimple one
  right : IsSimple other
  across : (a b : Edge) → Contains one a → Contains other b → b.from ≢ a.from

split_simple : (one other : List Edge) → IsSimple (one ++ other) → AreApart one other
split_simple [] other simple = record { left = tt; right = simple; across = λ a b among _. absurd (omega (arith, among.1)) }
split_simple (edge ∷ one) other simple =
    let rest = split_simple one other simple.1 in
    record {
      left = (all_from_contains (λ (e : Edge). e.from ≢ edge.from) one (λ e among. All-contains (λ (e : Edge). e.from ≢ edge.from) (one ++ other) e simple.0 (Contains-append_left one other e among)), rest.left);
      right = rest.right;
      across = λ a b in_one in_other. ⊎_elim
          (λ same. subst (λ (e : Edge). b.from ≢ e.from) same (All-contains (λ (e : Edge). e.from ≢ edge.from) (one ++ other) b simple.0 (Contains-append_right one other b in_other)))
          (λ later. rest.across a b later in_other)
          (Contains-cons_cases edge one a in_one);
    }

join_simple : (one other : List Edge) → AreApart one other → IsSimple (one ++ other)
join_simple [] other apart = apart.right
join_simple (edge ∷ one) other apart = (
  all_from_contains (λ (e : Edge). e.from ≢ edge.from) (one ++ other) (λ e among. ⊎_elim
      (λ in_one. All-contains (λ (e : Edge). e.from ≢ edge.from) one e apart.left.0 in_one)
      (λ in_other. apart.across edge e (Contains-head edge one) in_other)
      (Contains-append_cases one other e among)),
  join_simple one other (record { left = apart.left.1; right = apart.right; across = λ a b in_one in_other. apart.across a b (Contains-tail edge one a in_one) in_other }),
)

split_leads : (from to : ℕ) (one other : List Edge) → LeadsFrom from (one ++ other) to → (via : ℕ) × (LeadsFrom from one via × LeadsFrom via other to)
split_leads from to [] other leads = (from, (refl, leads))
split_leads from to (edge ∷ one) other leads = let rest = split_leads edge.to to one other leads.1 in (rest.0, ((leads.0, rest.1.0), rest.1.1))

-- a cycle may be begun at any of its edges
turn_closed : (one : List Edge) (edge : Edge) (other : List Edge) → LeadsBack (one ++ edge ∷ other) → LeadsBack (edge ∷ other ++ one)
turn_closed one edge other closed =
    let round = closed_leads (one ++ edge ∷ other) closed in
    let parts = split_leads round.0 round.0 one (edge ∷ other) round.1 in
    subst (LeadsFrom edge.to (other ++ one)) (sym parts.1.1.0) (LeadsFrom-append edge.to round.0 parts.0 other one parts.1.1.1 parts.1.0)

turn_simple : (one other : List Edge) → IsSimple (one ++ other) → IsSimple (other ++ one)
turn_simple one other simple =
    let apart = split_simple one other simple in
    join_simple other one (record { left = apart.right; right = apart.left; across = λ a b in_other in_one same. apart.across b a in_one in_other (sym same) })

-- the place with the least number, and those before and after it
record LeastSplit (number : ℕ → ℕ) (places : List ℕ) : Type 0 where
  before : List ℕ
  least : ℕ
  after : List ℕ
  parts : places ≡ before ++ least ∷ after
  least_before : All (λ place. number least ≤ number place) before
  least_after : All (λ place. number least ≤ number place) after

least_split : (number : ℕ → ℕ) (place : ℕ) (places : List ℕ) → LeastSplit number (place ∷ places)
least_split number place [] = record {
  before = [];
  least = place;
  after = [];
  parts = refl;
  least_before = All-nil (λ other. number place ≤ number other);
  least_after = All-nil (λ other. number place ≤ number other);
}
least_split number place (next ∷ places) =
    let rest = least_split number next places in
    ⊎_elim
    (λ above. record {
      before = place ∷ rest.before;
      least = rest.least;
      after = rest.after;
      parts = ap (λ list. place ∷ list) rest.parts;
      least_before = All-cons (λ other. number rest.least ≤ number other) place rest.before (omega arith) rest.least_before;
      least_after = rest.least_after;
    })
    (λ below. record {
      before = [];
      least = place;
      after = next ∷ places;
      parts = refl;
      least_before = All-nil (λ other. number place ≤ number other);
      least_after = subst (All (λ other. number place ≤ number other)) (sym rest.parts)
          (All-append (λ other. number place ≤ number other) rest.before (rest.least ∷ rest.after)
          (All-weaker (λ other. number rest.least ≤ number other) (λ other. number place ≤ number other) (λ other le. omega arith) rest.before rest.least_before)
          (All-cons (λ other. number place ≤ number other) rest.least rest.after below
          (All-weaker (λ other. number rest.least ≤ number other) (λ other. number place ≤ number other) (λ other le. omega arith) rest.after rest.least_after)));
    })
    (cases_lt (number rest.least) (number place))

-- what holds of the edges at the places holds of all
all_at : (edges : List Edge) (P : Edge → Type 0) (places : List ℕ) → All (λ place. P (edge_at edges place)) places → All P (edges_at edges places)
all_at edges P places all = all_from_contains P (edges_at edges places) (λ edge among.
    let found = edges_at-stands edges places edge among in
    subst P (get_or_from_slice_get edges found.place edge (record { from = 0; to = 0; gap = pos 0 }) found.at) (All-contains (λ place. P (edge_at edges place)) places found.place all found.among))

edges_at-first : (edges : List Edge) (place : ℕ) (places : List ℕ) → place < length edges → edges_at edges (place ∷ places) ≡ edge_at edges place ∷ edges_at edges places
edges_at-first edges place places within = ap (λ o. option_to_list o ++ edges_at edges places) (slice_get-get_or edges place (record { from = 0; to = 0; gap = pos 0 }) within)

module _ (edges : List Edge) (kept : List ℕ) (needed : AreNeeded edges kept) where
  chosen : Chosen edges kept needed.cycle.cycle
  chosen = choose edges kept needed.cycle.cycle needed.cycle.within

  -- what isn't on the cycle isn't needed
  all_chosen : (place : ℕ) → Contains kept place → Contains chosen.places place
  all_chosen place among =
      ⊎_elim (λ is. is)
      (λ none. ⊎_elim (λ never. absurd (omega (arith, never.1)))
      (λ needs. absurd (needs chosen.places
      (λ other there. (chosen.in_kept other there, λ same. none (subst (Contains chosen.places) same there)))
      (subst HasNoSchedule (sym chosen.are) (no_schedule needed.cycle.cycle (record { cycle = needed.cycle.cycle; within = λ edge there. there; closed = needed.cycle.closed; simple = needed.cycle.simple; positive = needed.cycle.positive })))))
      (each_needed edges [] (range_with_len 0 (length edges)) kept needed.leaves place among))
      (decide_contains chosen.places place)

  ordered_from : (places : List ℕ) → edges_at edges places ≡ needed.cycle.cycle → ((place : ℕ) → Contains places place ↔ Contains kept place) → (ordered : List ℕ) × IsCycleOf edges kept ordered
  ordered_from [] are same = absurd (subst LeadsBack (sym are) needed.cycle.closed)
  ordered_from (first ∷ rest) are same =
      let parts = least_split (λ place. (edge_at edges place).from) first rest in
      let front = parts.least ∷ parts.after in
      let cut : edges_at edges (first ∷ rest) ≡ edges_at edges parts.before ++ edges_at edges front = ap (edges_at edges) parts.parts ∙ edges_at-append edges parts.before front in
      let in_edges : All (λ place. place < length edges) (first ∷ rest) = all_from_contains (λ place. place < length edges) (first ∷ rest) (λ place among. All-contains (λ place. place < length edges) kept place needed.within ((same place).0 among)) in
      let least_within : parts.least < length edges = All-contains (λ place. place < length edges) (first ∷ rest) parts.least in_edges
      (subst (λ list. Contains list parts.least) (sym parts.parts) (Contains-append_right parts.before front parts.least (Contains-head parts.least parts.after))) in
      let here = edges_at-first edges parts.least parts.after least_within in
      let whole : needed.cycle.cycle ≡ edges_at edges parts.before ++ (edge_at edges parts.least ∷ edges_at edges parts.after) = sym are ∙ cut ∙ ap (λ list. edges_at edges parts.before ++ list) here in
      let turned : edges_at edges (front ++ parts.before) ≡ edge_at edges parts.least ∷ edges_at edges parts.after ++ edges_at edges parts.before = edges_at-append edges front parts.before ∙ ap (λ list. list ++ edges_at edges parts.before) here in (
        front ++ parts.before,
        record {
          same = λ place. (
            (λ among. (same place).0 (subst (λ list. Contains list place) (sym parts.parts)
                (⊎_elim (λ in_front. Contains-append_right parts.before front place in_front) (λ in_before. Contains-append_left parts.before front place in_before) (Contains-append_cases front parts.before place among)))),
            (λ among.
                ⊎_elim (λ in_before. Contains-append_right front parts.before place in_before) (λ in_front. Contains-append_left front parts.before place in_front)
                (Contains-append_cases parts.before front place (subst (λ list. Contains list place) parts.parts ((same place).1 among)))),
          );
          cycle = record {
            within = all_from_contains (λ place. place < length edges) (front ++ parts.before) (λ place among. All-contains (λ place. place < length edges) (first ∷ rest) place in_edges
                (subst (λ list. Contains list place) (sym parts.parts)
                (⊎_elim (λ in_front. Contains-append_right parts.before front place in_front) (λ in_before. Contains-append_left parts.before front place in_before) (Contains-append_cases front parts.before place among))));
            closed = subst LeadsBack (sym turned) (turn_closed (edges_at edges parts.before) (edge_at edges parts.least) (edges_at edges parts.after) (subst LeadsBack whole needed.cycle.closed));
            simple = subst IsSimple (sym turned) (turn_simple (edges_at edges parts.before) (edge_at edges parts.least ∷ edges_at edges parts.after) (subst IsSimple whole needed.cycle.simple));
            positive =
                let sum = ap gap_sum whole ∙ gap_sum-append (edges_at edges parts.before) (edge_at edges parts.least ∷ edges_at edges parts.after) in
                let sum_turned = ap gap_sum turned ∙ gap_sum-append (edge_at edges parts.least ∷ edges_at edges parts.after) (edges_at edges parts.before) in
                let positive = needed.cycle.positive in
                omega (arith, ints);
          };
          first = subst BeginsLeast (sym turned)
              (All-append (λ other. (edge_at edges parts.least).from ≤ other.from) (edges_at edges parts.after) (edges_at edges parts.before)
              (all_at edges (λ other. (edge_at edges parts.least).from ≤ other.from) parts.after parts.least_after)
              (all_at edges (λ other. (edge_at edges parts.least).from ≤ other.from) parts.before parts.least_before));
        },
      )

  -- the places that are needed have an order as a cycle
  pub cycle_of : (ordered : List ℕ) × IsCycleOf edges kept ordered
  cycle_of = ordered_from chosen.places chosen.are (λ place. (chosen.in_kept place, all_chosen place))
