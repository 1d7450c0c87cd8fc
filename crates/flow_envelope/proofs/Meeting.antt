-- Schedules that are met and joined: of two schedules the earlier values are a schedule, and so are the later ones, and
-- one of them may be moved before if the origin stays.
use Rattle.std.proofs.Common.{◌≡◌, ℕ, ℤ, pos, ◌+ℤ◌, ◌-ℤ◌, ◌≤ℤ◌, ◌<ℤ◌, ◌⊎◌, inl, inr, ⊎_elim, cond, List, [], ◌∷◌, ◌++◌, map, ap, ◌∙◌, subst, arith}
use Rattle.std.specs.Prelude.{Contains, int_lt}
use Rattle.std.proofs.lemmas.Int.{ints}
use Rattle.std.proofs.lemmas.List.{length-map, get_or-map}
use Rattle.std.proofs.lemmas.List.Elements.{All-append, All-map, All-contains, Contains-append_left, Contains-append_right}
use Rattle.std.proofs.lemmas.Bool.{cond-true, cond-false}
use Rattle.eu_name.proofs.Ordered.{contains_head, contains_later, contains_cases, contains_none}
use Rattle.temporal_core.specs.declared.edges.Edge.{Edge}
use Rattle.temporal_core.specs.Schedule.{KeepsEdge, IsSchedule}
use Rattle.temporal_core.proofs.Members.{all_from_contains}
use Rattle.flow_envelope.specs.Times.{MayBeBy, MayBeAfter, Precedes}
use Rattle.flow_envelope.specs.Pins.{early_edge, late_edge}
use Rattle.flow_envelope.proofs.Adding.{compared}

-- ---- the lesser and the greater of two numbers

lesser : ℤ → ℤ → ℤ
lesser a b = cond (int_lt b a) b a

lesser_cases : (a b : ℤ) → ((lesser a b ≡ b) × (b <ℤ a)) ⊎ ((lesser a b ≡ a) × (a ≤ℤ b))
unfolding lesser
lesser_cases a b = ⊎_elim (λ is. inl (cond-true (int_lt b a) b a is.0, is.1)) (λ is. inr (cond-false (int_lt b a) b a is.0, is.1)) (compared b a)

lesser_low : (a b : ℤ) → (lesser a b ≤ℤ a) × (lesser a b ≤ℤ b)
lesser_low a b =
    ⊎_elim
    (λ is. let same = is.0 in let less = is.1 in (omega (arith, ints), omega (arith, ints)))
    (λ is. let same = is.0 in let less = is.1 in (omega (arith, ints), omega (arith, ints)))
    (lesser_cases a b)

greater : ℤ → ℤ → ℤ
greater a b = cond (int_lt a b) b a

greater_cases : (a b : ℤ) → ((greater a b ≡ b) × (a <ℤ b)) ⊎ ((greater a b ≡ a) × (b ≤ℤ a))
unfolding greater
greater_cases a b = ⊎_elim (λ is. inl (cond-true (int_lt a b) b a is.0, is.1)) (λ is. inr (cond-false (int_lt a b) b a is.0, is.1)) (compared a b)

greater_high : (a b : ℤ) → (a ≤ℤ greater a b) × (b ≤ℤ greater a b)
greater_high a b =
    ⊎_elim
    (λ is. let same = is.0 in let less = is.1 in (omega (arith, ints), omega (arith, ints)))
    (λ is. let same = is.0 in let less = is.1 in (omega (arith, ints), omega (arith, ints)))
    (greater_cases a b)

-- ---- the earlier and the later values of two schedules

pub met : (ℕ → ℤ) → (ℕ → ℤ) → ℤ → ℕ → ℤ
met one other by point = lesser (one point) (other point +ℤ by)

pub met_low : (one other : ℕ → ℤ) (by : ℤ) (point : ℕ) → (met one other by point ≤ℤ one point) × (met one other by point ≤ℤ (other point +ℤ by))
unfolding met
met_low one other by point = lesser_low (one point) (other point +ℤ by)

pub met_above : (one other : ℕ → ℤ) (by : ℤ) (point : ℕ) (limit : ℤ) → limit <ℤ one point → limit <ℤ (other point +ℤ by) → limit <ℤ met one other by point
unfolding met
met_above one other by point limit first second =
    ⊎_elim
    (λ is. let same = is.0 in omega (arith, ints))
    (λ is. let same = is.0 in omega (arith, ints))
    (lesser_cases (one point) (other point +ℤ by))

met_edge : (a b c d by gap : ℤ) → (a +ℤ gap) ≤ℤ b → (c +ℤ gap) ≤ℤ d → (lesser a (c +ℤ by) +ℤ gap) ≤ℤ lesser b (d +ℤ by)
met_edge a b c d by gap first second =
    let low = lesser_low a (c +ℤ by) in
    let low_first = low.0 in
    let low_second = low.1 in
    ⊎_elim
    (λ is. let same = is.0 in omega (arith, ints))
    (λ is. let same = is.0 in omega (arith, ints))
    (lesser_cases b (d +ℤ by))

pub met_schedule : (edges : List Edge) (one other : ℕ → ℤ) (by : ℤ) → IsSchedule edges one → IsSchedule edges other → pos 0 ≤ℤ by → IsSchedule edges (met one other by)
unfolding met
met_schedule edges one other by first second low = record {
  origin =
      let start = first.origin in
      let start_too = second.origin in
      ⊎_elim
      (λ is. let same = is.0 in let less = is.1 in omega (arith, ints))
      (λ is. let same = is.0 in omega (arith, ints))
      (lesser_cases (one 0) (other 0 +ℤ by));
  keeps = all_from_contains (KeepsEdge (λ point. lesser (one point) (other point +ℤ by))) edges (λ edge there.
      met_edge (one edge.from) (one edge.to) (other edge.from) (other edge.to) by edge.gap
      (All-contains (KeepsEdge one) edges edge first.keeps there) (All-contains (KeepsEdge other) edges edge second.keeps there));
}

pub joined : (ℕ → ℤ) → (ℕ → ℤ) → ℤ → ℕ → ℤ
joined one other by point = greater (one point) (other point +ℤ by)

pub joined_high : (one other : ℕ → ℤ) (by : ℤ) (point : ℕ) → (one point ≤ℤ joined one other by point) × ((other point +ℤ by) ≤ℤ joined one other by point)
unfolding joined
joined_high one other by point = greater_high (one point) (other point +ℤ by)

pub joined_below : (one other : ℕ → ℤ) (by : ℤ) (point : ℕ) (limit : ℤ) → one point ≤ℤ limit → (other point +ℤ by) ≤ℤ limit → joined one other by point ≤ℤ limit
unfolding joined
joined_below one other by point limit first second =
    ⊎_elim
    (λ is. let same = is.0 in omega (arith, ints))
    (λ is. let same = is.0 in omega (arith, ints))
    (greater_cases (one point) (other point +ℤ by))

joined_edge : (a b c d by gap : ℤ) → (a +ℤ gap) ≤ℤ b → (c +ℤ gap) ≤ℤ d → (greater a (c +ℤ by) +ℤ gap) ≤ℤ greater b (d +ℤ by)
joined_edge a b c d by gap first second =
    let high = greater_high b (d +ℤ by) in
    let high_first = high.0 in
    let high_second = high.1 in
    ⊎_elim
    (λ is. let same = is.0 in omega (arith, ints))
    (λ is. let same = is.0 in omega (arith, ints))
    (greater_cases a (c +ℤ by))

pub joined_schedule : (edges : List Edge) (one other : ℕ → ℤ) (by : ℤ) → IsSchedule edges one → IsSchedule edges other → by ≤ℤ pos 0 → IsSchedule edges (joined one other by)
unfolding joined
joined_schedule edges one other by first second high = record {
  origin =
      let start = first.origin in
      let start_too = second.origin in
      ⊎_elim
      (λ is. let same = is.0 in let less = is.1 in omega (arith, ints))
      (λ is. let same = is.0 in omega (arith, ints))
      (greater_cases (one 0) (other 0 +ℤ by));
  keeps = all_from_contains (KeepsEdge (λ point. greater (one point) (other point +ℤ by))) edges (λ edge there.
      joined_edge (one edge.from) (one edge.to) (other edge.from) (other edge.to) by edge.gap
      (All-contains (KeepsEdge one) edges edge first.keeps there) (All-contains (KeepsEdge other) edges edge second.keeps there));
}

-- ---- one point before another in every schedule

-- where a point has happened whenever another one has, and neither is certain, no schedule has it later
pub precedes_from : (edges : List Edge) (at : ℤ) (one other : ℕ) → MayBeBy edges at one → MayBeAfter edges at other
    → ((value : ℕ → ℤ) → IsSchedule edges value → value one ≤ℤ at → value other ≤ℤ at) → Precedes edges other one
precedes_from edges at one other may_be may_not follows value schedule =
    ⊎_elim
    (λ before.
    let less = before.1 in
    ⊎_elim
    (λ back.
    let under = back.1 in
    let moved = joined may_be.0 value (at -ℤ value one) in
    let early = follows moved (joined_schedule edges may_be.0 value (at -ℤ value one) may_be.1 schedule (omega (arith, ints)))
    (joined_below may_be.0 value (at -ℤ value one) one at may_be.2 (omega (arith, ints))) in
    let high = (joined_high may_be.0 value (at -ℤ value one) other).1 in
    absurd (omega (arith, ints)))
    (λ on.
    let over = on.1 in
    let late = may_not.2 in
    let moved = met may_not.0 value (at -ℤ value one) in
    let low = (met_low may_not.0 value (at -ℤ value one) one).1 in
    let early = follows moved (met_schedule edges may_not.0 value (at -ℤ value one) may_not.1 schedule (omega (arith, ints))) (omega (arith, ints)) in
    let after = met_above may_not.0 value (at -ℤ value one) other at late (omega (arith, ints)) in
    absurd (omega (arith, ints)))
    (compared (at -ℤ value one) (pos 0)))
    (λ not_before. not_before.1)
    (compared (value one) (value other))

-- ---- one schedule for many points

-- if each point has a schedule that has it by the instant, one has them all
pub met_all : (edges : List Edge) (at : ℤ) (Q : (ℕ → ℤ) → Type 0) → ((one other : ℕ → ℤ) → Q one → Q other → Q (met one other (pos 0)))
    → ((value : ℕ → ℤ) × IsSchedule edges value × Q value) → (points : List ℕ)
    → ((point : ℕ) → Contains points point → (value : ℕ → ℤ) × IsSchedule edges value × (value point ≤ℤ at) × Q value)
    → (value : ℕ → ℤ) × IsSchedule edges value × ((point : ℕ) → Contains points point → value point ≤ℤ at) × Q value
met_all edges at Q both start [] each = (start.0, start.1, (λ point there. absurd (contains_none point there)), start.2)
met_all edges at Q both start (first ∷ points) each =
    let rest = met_all edges at Q both start points (λ point there. each point (contains_later first point points there)) in
    let here = each first (contains_head first points) in (
      met here.0 rest.0 (pos 0),
      met_schedule edges here.0 rest.0 (pos 0) here.1 rest.1 (omega (arith, ints)),
      (λ point there.
          let low = met_low here.0 rest.0 (pos 0) point in
          let low_here = low.0 in
          let low_rest = low.1 in
          ⊎_elim
          (λ same. let early = subst (λ p. here.0 p ≤ℤ at) same here.2 in omega (arith, ints))
          (λ later. let early = rest.2 point later in omega (arith, ints))
          (contains_cases first point points there)),
      both here.0 rest.0 here.3 rest.3,
    )

-- if each point has a schedule that has it after the instant, one has them all
pub joined_all : (edges : List Edge) (at : ℤ) → ((value : ℕ → ℤ) × IsSchedule edges value) → (points : List ℕ)
    → ((point : ℕ) → Contains points point → (value : ℕ → ℤ) × IsSchedule edges value × (at <ℤ value point))
    → (value : ℕ → ℤ) × IsSchedule edges value × ((point : ℕ) → Contains points point → at <ℤ value point)
joined_all edges at start [] each = (start.0, start.1, (λ point there. absurd (contains_none point there)))
joined_all edges at start (first ∷ points) each =
    let rest = joined_all edges at start points (λ point there. each point (contains_later first point points there)) in
    let here = each first (contains_head first points) in (
      joined here.0 rest.0 (pos 0),
      joined_schedule edges here.0 rest.0 (pos 0) here.1 rest.1 (omega (arith, ints)),
      (λ point there.
          let high = joined_high here.0 rest.0 (pos 0) point in
          let high_here = high.0 in
          let high_rest = high.1 in
          ⊎_elim
          (λ same. let late = subst (λ p. at <ℤ here.0 p) same here.2 in omega (arith, ints))
          (λ later. let late = rest.2 point later in omega (arith, ints))
          (contains_cases first point points there)),
    )

-- ---- edges that keep points on one side

-- a schedule of more edges is one of the first ones
pub fewer_edges : (edges more : List Edge) (value : ℕ → ℤ) → IsSchedule (edges ++ more) value → IsSchedule edges value
fewer_edges edges more value schedule = record {
  origin = schedule.origin;
  keeps = all_from_contains (KeepsEdge value) edges (λ edge there. All-contains (KeepsEdge value) (edges ++ more) edge schedule.keeps (Contains-append_left edges more edge there));
}

keeps_more : (edges more : List Edge) (value : ℕ → ℤ) (edge : Edge) → IsSchedule (edges ++ more) value → Contains more edge → KeepsEdge value edge
keeps_more edges more value edge schedule there = All-contains (KeepsEdge value) (edges ++ more) edge schedule.keeps (Contains-append_right edges more edge there)

contains_map : (f : ℕ → Edge) (points : List ℕ) (point : ℕ) → Contains points point → Contains (map f points) (f point)
contains_map f points point there = (there.0, omega (arith, there.1, length-map points f), get_or-map f points there.0 point (f point) there.1 ∙ ap f there.2)

pub early_schedule : (edges : List Edge) (at : ℤ) (points : List ℕ) (value : ℕ → ℤ) → IsSchedule edges value → ((point : ℕ) → Contains points point → value point ≤ℤ at)
    → IsSchedule (edges ++ map (early_edge at) points) value
early_schedule edges at points value schedule each = record {
  origin = schedule.origin;
  keeps = All-append (KeepsEdge value) edges (map (early_edge at) points) schedule.keeps
      (All-map (KeepsEdge value) (early_edge at) points
      (all_from_contains (λ point. KeepsEdge value (early_edge at point)) points (λ point there. let early = each point there in let origin = schedule.origin in omega (arith, ints))));
}

pub early_point : (edges : List Edge) (at : ℤ) (points : List ℕ) (value : ℕ → ℤ) (point : ℕ) → IsSchedule (edges ++ map (early_edge at) points) value → Contains points point → value point ≤ℤ at
early_point edges at points value point schedule there =
    let keeps = keeps_more edges (map (early_edge at) points) value (early_edge at point) schedule (contains_map (early_edge at) points point there) in
    let origin = schedule.origin in
    omega (arith, ints)

pub late_schedule : (edges : List Edge) (at : ℤ) (points : List ℕ) (value : ℕ → ℤ) → IsSchedule edges value → ((point : ℕ) → Contains points point → at <ℤ value point)
    → IsSchedule (edges ++ map (late_edge at) points) value
late_schedule edges at points value schedule each = record {
  origin = schedule.origin;
  keeps = All-append (KeepsEdge value) edges (map (late_edge at) points) schedule.keeps
      (All-map (KeepsEdge value) (late_edge at) points
      (all_from_contains (λ point. KeepsEdge value (late_edge at point)) points (λ point there. let late = each point there in let origin = schedule.origin in omega (arith, ints))));
}

pub late_point : (edges : List Edge) (at : ℤ) (points : List ℕ) (value : ℕ → ℤ) (point : ℕ) → IsSchedule (edges ++ map (late_edge at) points) value → Contains points point → at <ℤ value point
late_point edges at points value point schedule there =
    let keeps = keeps_more edges (map (late_edge at) points) value (late_edge at point) schedule (contains_map (late_edge at) points point there) in
    let origin = schedule.origin in
    omega (arith, ints)
