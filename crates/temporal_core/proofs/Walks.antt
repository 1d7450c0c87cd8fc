-- Walks along edges: a walk is a cycle whose gaps sum to more than 0, or there is a path that leads as far.
use Rattle.std.proofs.Common.{◌≡◌, ◌≢◌, ℕ, suc, zero, ◌*◌, ◌<◌, ◌≤◌, ℤ, pos, neg_ℤ, ◌+ℤ◌, ◌≤ℤ◌, ◌<ℤ◌, ◌⊎◌, inl, inr, ⊎_elim, List, [], ◌∷◌, ◌++◌, length, refl, sym, ap, ◌∙◌, subst, arith}
use Rattle.std.specs.Prelude.{Contains, All}
use Rattle.std.proofs.lemmas.Int.{ints, by_lt_z}
use Rattle.std.proofs.lemmas.List.Elements.{All-nil, All-cons, All-head, All-tail, All-contains, Contains-append_left, Contains-append_right}
use Rattle.std.proofs.lemmas.Bool.{cases_eq}
use Rattle.temporal_core.specs.declared.edges.Edge.{Edge}
use Rattle.temporal_core.specs.Network.{IsEdge}
use Rattle.temporal_core.specs.Schedule.{KeepsEdge, HasNoSchedule}
use Rattle.temporal_core.specs.Cycle.{LeadsFrom, gap_sum, LeadsBack, IsSimple}
use Rattle.temporal_core.specs.Satisfied.{Walk, HasPositiveCycle}
use Rattle.temporal_core.proofs.Raising.{gap_sum-append}

pub Contains-head : {X : Type 0} (x : X) (xs : List X) → Contains (x ∷ xs) x
Contains-head x xs = (0, omega arith, refl)

pub Contains-tail : {X : Type 0} (y : X) (ys : List X) (x : X) → Contains ys x → Contains (y ∷ ys) x
Contains-tail y ys x c = (suc c.0, omega (arith, c.1), c.2)

pub Contains-cons_cases : {X : Type 0} (y : X) (ys : List X) (x : X) → Contains (y ∷ ys) x → (y ≡ x) ⊎ Contains ys x
Contains-cons_cases y ys x (zero, below, is) = inl is
Contains-cons_cases y ys x (suc k, below, is) = inr (k, omega (arith, below), is)

pub LeadsFrom-append : (from via to : ℕ) (one other : List Edge) → LeadsFrom from one via → LeadsFrom via other to → LeadsFrom from (one ++ other) to
LeadsFrom-append from via to [] other p q = subst (λ x. LeadsFrom x other to) (sym p) q
LeadsFrom-append from via to (edge ∷ one) other p q = (p.0, LeadsFrom-append edge.to via to one other p.1 q)

-- the point is none at which an edge begins, and not the end
abbrev pub IsApart : ℕ → List Edge → ℕ → Type 0
IsApart point [] end = point ≢ end
IsApart point (edge ∷ edges) end = (point ≢ edge.from) × IsApart point edges end

-- the edges come to no point twice, the end included
abbrev pub IsPath : List Edge → ℕ → Type 0
IsPath [] end = Unit {0}
IsPath (edge ∷ edges) end = IsApart edge.from edges end × IsPath edges end

IsApart-front : (point x end : ℕ) (one other : List Edge) → IsApart point (one ++ other) end → point ≢ x → IsApart point one x
IsApart-front point x end [] other apart not = not
IsApart-front point x end (edge ∷ one) other apart not = (apart.0, IsApart-front point x end one other apart.1 not)

All-apart : (point end : ℕ) (edges : List Edge) → IsApart point edges end → All (λ other. other.from ≢ point) edges
All-apart point end [] apart = All-nil (λ (other : Edge). other.from ≢ point)
All-apart point end (edge ∷ edges) apart = All-cons (λ (other : Edge). other.from ≢ point) edge edges (λ same. apart.0 (sym same)) (All-apart point end edges apart.1)

IsApart-end : (point end : ℕ) (edges : List Edge) → IsApart point edges end → point ≢ end
IsApart-end point end [] apart = apart
IsApart-end point end (edge ∷ edges) apart = IsApart-end point end edges apart.1

All-not_end : (end : ℕ) (edges : List Edge) → IsPath edges end → All (λ other. other.from ≢ end) edges
All-not_end end [] path = All-nil (λ (other : Edge). other.from ≢ end)
All-not_end end (edge ∷ edges) path = All-cons (λ (other : Edge). other.from ≢ end) edge edges (IsApart-end edge.from end edges path.0) (All-not_end end edges path.1)

pub IsSimple-path : (end : ℕ) (edges : List Edge) → IsPath edges end → IsSimple edges
IsSimple-path end [] path = tt
IsSimple-path end (edge ∷ edges) path = (All-apart edge.from end edges path.0, IsSimple-path end edges path.1)

-- a path in two parts, the first of which leads to the point
record Split (point from to : ℕ) (steps : List Edge) : Type 0 where
  before : List Edge
  after : List Edge
  parts : steps ≡ before ++ after
  first : LeadsFrom from before point
  second : LeadsFrom point after to
  before_path : IsPath before point
  after_path : IsPath after to

-- past an edge that begins elsewhere, the rest comes to the point or doesn't
split_on : (point from to : ℕ) (edge : Edge) (steps : List Edge) → edge.from ≡ from → IsApart edge.from steps to → point ≢ edge.from
    → (IsApart point steps to ⊎ Split point edge.to to steps) → IsApart point (edge ∷ steps) to ⊎ Split point from to (edge ∷ steps)
split_on point from to edge steps here apart not (inl away) = inl (not, away)
split_on point from to edge steps here apart not (inr parts) = inr (record {
  before = edge ∷ parts.before;
  after = parts.after;
  parts = ap (λ rest. edge ∷ rest) parts.parts;
  first = (here, parts.first);
  second = parts.second;
  before_path = (IsApart-front edge.from point to parts.before parts.after (subst (λ rest. IsApart edge.from rest to) parts.parts apart) (λ same. not (sym same)), parts.before_path);
  after_path = parts.after_path;
})

-- a path comes to the point or doesn't
split : (point from to : ℕ) (steps : List Edge) → LeadsFrom from steps to → IsPath steps to → IsApart point steps to ⊎ Split point from to steps
split point from to [] leads path =
    ⊎_elim (λ same. inr (record { before = []; after = []; parts = refl; first = leads ∙ sym same; second = same; before_path = tt; after_path = tt })) (λ apart. inl apart) (cases_eq point to)
split point from to (edge ∷ steps) leads path =
    ⊎_elim
    (λ same. inr (record { before = []; after = edge ∷ steps; parts = refl; first = sym leads.0 ∙ sym same; second = (sym same, leads.1); before_path = tt; after_path = path }))
    (λ apart. split_on point from to edge steps leads.0 path.0 apart (split point edge.to to steps leads.1 path.1))
    (cases_eq point edge.from)

-- a path whose gaps sum to that much at least
pub record Path (edges : List Edge) (from to : ℕ) (least : ℤ) : Type 0 where
  pub steps : List Edge
  pub leads : LeadsFrom from steps to
  pub within : (edge : Edge) → Contains steps edge → Contains edges edge
  pub path : IsPath steps to
  pub sum : least ≤ℤ gap_sum steps

-- an edge before a path makes a longer path, or closes a cycle
module _ (edges : List Edge) (from to : ℕ) (edge : Edge) (here : edge.from ≡ from) (contained : Contains edges edge) (least : ℤ) (rest : Path edges edge.to to least) where
  longer : IsApart from rest.steps to → Path edges from to (edge.gap +ℤ least)
  longer apart = record {
    steps = edge ∷ rest.steps;
    leads = (here, rest.leads);
    within = λ other among. ⊎_elim (λ same. subst (Contains edges) same contained) (λ later. rest.within other later) (Contains-cons_cases edge rest.steps other among);
    path = (subst (λ x. IsApart x rest.steps to) (sym here) apart, rest.path);
    sum = let enough = rest.sum in omega (arith, ints);
  }

  module _ (parts : Split from edge.to to rest.steps) where
    in_before : (other : Edge) → Contains parts.before other → Contains edges other
    in_before other among = rest.within other (subst (λ steps. Contains steps other) (sym parts.parts) (Contains-append_left parts.before parts.after other among))

    in_after : (other : Edge) → Contains parts.after other → Contains edges other
    in_after other among = rest.within other (subst (λ steps. Contains steps other) (sym parts.parts) (Contains-append_right parts.before parts.after other among))

    cycle : pos 0 <ℤ (edge.gap +ℤ gap_sum parts.before) → HasPositiveCycle edges
    cycle positive = record {
      cycle = edge ∷ parts.before;
      within = λ other among. ⊎_elim (λ same. subst (Contains edges) same contained) (λ later. in_before other later) (Contains-cons_cases edge parts.before other among);
      closed = subst (LeadsFrom edge.to parts.before) (sym here) parts.first;
      simple = (subst (λ x. All (λ other. other.from ≢ x) parts.before) (sym here) (All-not_end from parts.before parts.before_path), IsSimple-path from parts.before parts.before_path);
      positive = positive;
    }

    shorter : (edge.gap +ℤ gap_sum parts.before) ≤ℤ pos 0 → Path edges from to (edge.gap +ℤ least)
    shorter none = record {
      steps = parts.after;
      leads = parts.second;
      within = in_after;
      path = parts.after_path;
      sum =
          let enough = rest.sum in
          let whole : gap_sum rest.steps ≡ gap_sum parts.before +ℤ gap_sum parts.after = ap gap_sum parts.parts ∙ gap_sum-append parts.before parts.after in
          omega (arith, ints);
    }

  before_path_or_cycle : HasPositiveCycle edges ⊎ Path edges from to (edge.gap +ℤ least)
  before_path_or_cycle =
      ⊎_elim (λ apart. inr (longer apart))
      (λ parts. by_lt_z (pos 0) (edge.gap +ℤ gap_sum parts.before) (λ positive. inl (cycle parts positive)) (λ none. inr (shorter parts none)))
      (split from edge.to to rest.steps rest.leads rest.path)

-- as far as a walk leads a path leads, unless there is a positive cycle
pub path_or_cycle : (edges steps : List Edge) (from to : ℕ) → LeadsFrom from steps to → ((edge : Edge) → Contains steps edge → Contains edges edge) → HasPositiveCycle edges ⊎ Path edges from to (gap_sum steps)
path_or_cycle edges [] from to leads within = inr (record {
  steps = [];
  leads = leads;
  within = λ edge among. absurd (omega (arith, among.1));
  path = tt;
  sum = omega (arith, ints);
})
path_or_cycle edges (edge ∷ steps) from to leads within =
    ⊎_elim (λ cycle. inl cycle) (λ rest. before_path_or_cycle edges from to edge leads.0 (within edge (Contains-head edge steps)) (gap_sum steps) rest)
    (path_or_cycle edges steps edge.to to leads.1 (λ other among. within other (Contains-tail edge steps other among)))

-- a walk that comes back to where it began and leads upwards
pub cycle_from_walk : (edges : List Edge) (point : ℕ) (walk : Walk edges point point) → pos 0 <ℤ gap_sum walk.steps → HasPositiveCycle edges
cycle_from_walk edges point walk positive =
    ⊎_elim (λ cycle. cycle) (λ path. absurd (nothing path.steps path.leads path.path (let enough = path.sum in omega (arith, ints))))
    (path_or_cycle edges walk.steps point point walk.leads walk.within)
  where
    nothing : (steps : List Edge) → LeadsFrom point steps point → IsPath steps point → pos 0 <ℤ gap_sum steps → ⊥
    nothing [] leads path more = omega (arith, ints)
    nothing (edge ∷ steps) leads path more = IsApart-end edge.from point steps path.0 leads.0

-- values that keep the edges rise along a walk by the sum of its gaps
pub rises_along : (value : ℕ → ℤ) (edges steps : List Edge) (from to : ℕ) → All (KeepsEdge value) edges → LeadsFrom from steps to → ((edge : Edge) → Contains steps edge → Contains edges edge)
    → (value from +ℤ gap_sum steps) ≤ℤ value to
rises_along value edges [] from to keeps leads within = let same = ap value leads in omega (arith, ints)
rises_along value edges (edge ∷ steps) from to keeps leads within =
    let here = All-contains (KeepsEdge value) edges edge keeps (within edge (Contains-head edge steps)) in
    let begins = ap value leads.0 in
    let rest = rises_along value edges steps edge.to to keeps leads.1 (λ other among. within other (Contains-tail edge steps other among)) in
    omega (arith, ints)

pub closed_leads : (cycle : List Edge) → LeadsBack cycle → (point : ℕ) × LeadsFrom point cycle point
closed_leads [] closed = absurd closed
closed_leads (edge ∷ edges) closed = (edge.from, (refl, closed))

-- no values keep the edges of a positive cycle
pub none_keeps : (value : ℕ → ℤ) (edges : List Edge) → All (KeepsEdge value) edges → HasPositiveCycle edges → ⊥
none_keeps value edges keeps found =
    let round = closed_leads found.cycle found.closed in
    let rises = rises_along value edges found.cycle round.0 round.0 keeps round.1 found.within in
    let positive = found.positive in
    omega (arith, ints)

pub no_schedule : (edges : List Edge) → HasPositiveCycle edges → HasNoSchedule edges
no_schedule edges found = λ value schedule. none_keeps value edges schedule.keeps found

-- edges that begin at different points below a number are no more than it
record Others (n : ℕ) (edges : List Edge) : Type 0 where
  rest : List Edge
  simple : IsSimple rest
  below : All (λ edge. edge.from < n) rest
  fewer : length edges ≤ suc (length rest)
  among : (point : ℕ) → All (λ other. other.from ≢ point) edges → All (λ other. other.from ≢ point) rest

others : (n : ℕ) (edges : List Edge) → IsSimple edges → All (λ edge. edge.from < suc n) edges → Others n edges
others n [] simple below = record { rest = []; simple = tt; below = All-nil (λ (edge : Edge). edge.from < n); fewer = omega arith; among = λ point all. all }
others n (edge ∷ edges) simple below =
    let rest_below = All-tail (λ (edge : Edge). edge.from < suc n) edge edges below in
    ⊎_elim
    (λ same. record {
      rest = edges;
      simple = simple.1;
      below = all_below edges rest_below (subst (λ x. All (λ other. other.from ≢ x) edges) same simple.0);
      fewer = omega arith;
      among = λ point all. All-tail (λ (other : Edge). other.from ≢ point) edge edges all;
    })
    (λ apart.
    let some = others n edges simple.1 rest_below in
    let fewer = some.fewer in
    record {
      rest = edge ∷ some.rest;
      simple = (some.among edge.from simple.0, some.simple);
      below = All-cons (λ (other : Edge). other.from < n) edge some.rest (let small = All-head (λ (edge : Edge). edge.from < suc n) edge edges below in omega (arith, small, apart)) some.below;
      fewer = omega arith;
      among = λ point all. All-cons (λ (other : Edge). other.from ≢ point) edge some.rest (All-head (λ (other : Edge). other.from ≢ point) edge edges all) (some.among point (All-tail (λ (other : Edge). other.from ≢ point) edge edges all));
    })
    (cases_eq edge.from n)
  where
    all_below : (list : List Edge) → All (λ other. other.from < suc n) list → All (λ other. other.from ≢ n) list → All (λ other. other.from < n) list
    all_below [] small not = All-nil (λ (other : Edge). other.from < n)
    all_below (first ∷ list) small not =
        All-cons (λ (other : Edge). other.from < n) first list
        (let here = All-head (λ (other : Edge). other.from < suc n) first list small in let apart = All-head (λ (other : Edge). other.from ≢ n) first list not in omega (arith, here, apart))
        (all_below list (All-tail (λ (other : Edge). other.from < suc n) first list small) (All-tail (λ (other : Edge). other.from ≢ n) first list not))

pub simple_is_short : (n : ℕ) (edges : List Edge) → IsSimple edges → All (λ edge. edge.from < n) edges → length edges ≤ n
simple_is_short zero [] simple below = omega arith
simple_is_short zero (edge ∷ edges) simple below = absurd (let here = All-head (λ (edge : Edge). edge.from < zero) edge edges below in omega (arith, here))
simple_is_short (suc n) edges simple below =
    let some = others n edges simple below in
    let fewer = some.fewer in
    let short = simple_is_short n some.rest some.simple some.below in
    omega arith

-- so many gaps sum to so much at most, up or down
pub gap_sum_modest : (points : ℕ) (edges : List Edge) → All (IsEdge points) edges → (neg_ℤ (pos (length edges * 2000000)) ≤ℤ gap_sum edges) × (gap_sum edges ≤ℤ pos (length edges * 2000000))
gap_sum_modest points [] each = (omega (arith, ints), omega (arith, ints))
gap_sum_modest points (edge ∷ edges) each =
    let rest = gap_sum_modest points edges (All-tail (IsEdge points) edge edges each) in
    let here = All-head (IsEdge points) edge edges each in
    let low = here.low in
    let high = here.high in
    (omega (arith, ints, rest.0), omega (arith, ints, rest.1))
