-- Edges have a schedule or a positive cycle. Where values keep all edges but one, they are raised by one at the end of that edge, and
-- wherever they have to be then, until they keep it too; if its beginning has to be raised, there is a cycle.
use Rattle.std.proofs.Common.{◌≡◌, ℕ, zero, suc, ◌<◌, ℤ, pos, negsuc, ◌+ℤ◌, ◌-ℤ◌, ◌≤ℤ◌, ◌<ℤ◌, ◌⊎◌, inl, inr, ⊎_elim, List, [], ◌∷◌, ◌++◌, refl, subst, arith}
use Rattle.std.specs.Prelude.{Contains, All}
use Rattle.std.specs.List.{range_with_len}
use Rattle.std.proofs.lemmas.Bool.{cases_lt}
use Rattle.std.proofs.lemmas.Int.{ints, by_lt_z}
use Rattle.std.proofs.lemmas.List.Elements.{All-nil, All-cons, All-head, All-tail, All-contains, All-weaker, Contains-push_cases}
use Rattle.eu_name.proofs.Ordered.{contains_head, contains_later, contains_cases, contains_none}
use Rattle.plan_defs.proofs.Knowing.{IsOrNot}
use Rattle.law_states.specs.Undeniable.{Undeniable}
use Rattle.law_states.proofs.Denying.{each_is_or_not}
use Rattle.temporal_core.specs.declared.edges.Edge.{Edge}
use Rattle.temporal_core.specs.Schedule.{KeepsEdge, IsSchedule}
use Rattle.temporal_core.specs.Cycle.{LeadsFrom, gap_sum}
use Rattle.temporal_core.specs.Satisfied.{Walk, HasPositiveCycle}
use Rattle.temporal_core.proofs.Leaving.{Contains-range}
use Rattle.temporal_core.proofs.Members.{all_from_contains}
use Rattle.temporal_core.proofs.Raising.{gap_sum-append}
use Rattle.temporal_core.proofs.Satisfying.{HasPositiveCycle-within}
use Rattle.temporal_core.proofs.Walks.{LeadsFrom-append, cycle_from_walk}

-- the numbers of both points of the edge are below this one
abbrev pub JoinsBelow : ℕ → Edge → Type 0
JoinsBelow points edge = (edge.from < points) × (edge.to < points)

-- values keep the edges, or there is a cycle
abbrev pub HasValuesOrCycle : List Edge → Type 0
HasValuesOrCycle edges = ((value : ℕ → ℤ) × All (KeepsEdge value) edges) ⊎ HasPositiveCycle edges

-- ---- what is told

-- of each number it is so and the number is below this one, or not
told_below : (points : ℕ) (P : ℕ → Type 0) → ((point : ℕ) → Contains (range_with_len 0 points) point → IsOrNot (P point)) → (point : ℕ) → IsOrNot ((point < points) × P point)
told_below points P told point = elim (cases_lt point points) [
  | inl within ↦ elim (told point (Contains-range 0 points point (omega arith) (omega (arith, within)))) [
    | inl is ↦ inl (within, is)
    | inr not ↦ inr (λ both. not both.1)
  ]
  | inr past ↦ inr (λ both. omega (arith, past, both.0))
]

all_told : (points : ℕ) (P : ℕ → Type 0) → Undeniable ((point : ℕ) → IsOrNot ((point < points) × P point))
all_told points P none = each_is_or_not P (range_with_len 0 points) (λ told. none (told_below points P told))

-- ---- raising by one

-- the value, one more where it has to be raised
abbrev raised_by : {P : Type 0} → IsOrNot P → ℤ → ℤ
raised_by (inl is) value = value +ℤ pos 1
raised_by (inr not) value = value

-- an edge that was kept is kept then, if its end is raised too wherever it would have to be
kept_after : (P Q : Type 0) (one : IsOrNot P) (other : IsOrNot Q) (from to gap : ℤ) → (from +ℤ gap) ≤ℤ to → (P → (Q → ⊥) → (from +ℤ gap) <ℤ to)
    → (raised_by one from +ℤ gap) ≤ℤ raised_by other to
kept_after P Q (inl here) (inl there) from to gap keeps more = omega (arith, ints, keeps)
kept_after P Q (inl here) (inr away) from to gap keeps more = omega (arith, ints, more here away)
kept_after P Q (inr apart) (inl there) from to gap keeps more = omega (arith, ints, keeps)
kept_after P Q (inr apart) (inr away) from to gap keeps more = keeps

-- an edge of which the end alone is raised lacks one less
lacks_less : (P Q : Type 0) (one : IsOrNot P) (other : IsOrNot Q) (from to gap : ℤ) (left : ℕ) → (P → ⊥) → Q → (from +ℤ gap) ≤ℤ (to +ℤ pos (suc left))
    → (raised_by one from +ℤ gap) ≤ℤ (raised_by other to +ℤ pos left)
lacks_less P Q (inl here) other from to gap left none there most = absurd (none here)
lacks_less P Q (inr apart) (inl is) from to gap left none there most = omega (arith, ints, most)
lacks_less P Q (inr apart) (inr away) from to gap left none there most = absurd (away there)

-- edges of the list lead from one point to the other, and none of them could have a greater gap
record TightWalk (edges : List Edge) (value : ℕ → ℤ) (from to : ℕ) : Type 0 where
  steps : List Edge
  leads : LeadsFrom from steps to
  within : (edge : Edge) → Contains steps edge → Contains edges edge
  tight : (value from +ℤ gap_sum steps) ≡ value to

module _ (points : ℕ) (edges : List Edge) (edge : Edge) (joins : All (JoinsBelow points) edges) (ends : JoinsBelow points edge) where
  module _ (value : ℕ → ℤ) (keeps : All (KeepsEdge value) edges) where
    -- if the edge's end is raised, this point has to be
    abbrev HasToRise : ℕ → Type 0
    HasToRise point = (point < points) × TightWalk edges value edge.to point

    end_rises : HasToRise edge.to
    end_rises = (ends.1, record { steps = []; leads = refl; within = λ other there. absurd (contains_none other there); tight = omega (arith, ints) })

    next_rises : (next : Edge) → Contains edges next → HasToRise next.from → (value next.from +ℤ next.gap) ≡ value next.to → HasToRise next.to
    next_rises next there (below, walk) same = (
      (All-contains (JoinsBelow points) edges next joins there).1,
      record {
        steps = walk.steps ++ next ∷ [];
        leads = LeadsFrom-append edge.to next.from next.to walk.steps (next ∷ []) walk.leads (refl, refl);
        within = λ other among. ⊎_elim (λ old. walk.within other old) (λ it. subst (Contains edges) it there) (Contains-push_cases walk.steps next other among);
        tight =
            let sum = gap_sum-append walk.steps (next ∷ []) in
            let so_far = walk.tight in
            omega (arith, ints, same);
      },
    )

    -- else there is room
    has_room : (next : Edge) → Contains edges next → HasToRise next.from → (HasToRise next.to → ⊥) → (value next.from +ℤ next.gap) <ℤ value next.to
    has_room next there rises not =
        let kept = All-contains (KeepsEdge value) edges next keeps there in
        by_lt_z (value next.from +ℤ next.gap) (value next.to) (λ less. less) (λ most. absurd (not (next_rises next there rises (omega (arith, ints, kept, most)))))

    -- where the edge's own beginning would have to be raised
    closes : HasToRise edge.from → value edge.to <ℤ (value edge.from +ℤ edge.gap) → HasPositiveCycle (edge ∷ edges)
    closes (below, walk) more =
        let round : Walk (edge ∷ edges) edge.from edge.from = record {
          steps = edge ∷ walk.steps;
          leads = (refl, walk.leads);
          within = λ other among. ⊎_elim (λ same. subst (Contains (edge ∷ edges)) same (contains_head edge edges)) (λ later. contains_later edge other edges (walk.within other later)) (contains_cases edge other walk.steps among);
        } in
        let tight = walk.tight in
        cycle_from_walk (edge ∷ edges) edge.from round (omega (arith, ints, more))

    module _ (told : (point : ℕ) → IsOrNot (HasToRise point)) where
      abbrev raised : ℕ → ℤ
      raised point = raised_by (told point) (value point)

      raised_keeps : All (KeepsEdge raised) edges
      raised_keeps = all_from_contains (KeepsEdge raised) edges (λ next there.
          kept_after (HasToRise next.from) (HasToRise next.to) (told next.from) (told next.to) (value next.from) (value next.to) next.gap
          (All-contains (KeepsEdge value) edges next keeps there) (has_room next there))

      raised_less : (left : ℕ) → (HasToRise edge.from → ⊥) → (value edge.from +ℤ edge.gap) ≤ℤ (value edge.to +ℤ pos (suc left)) → (raised edge.from +ℤ edge.gap) ≤ℤ (raised edge.to +ℤ pos left)
      raised_less left not most = lacks_less (HasToRise edge.from) (HasToRise edge.to) (told edge.from) (told edge.to) (value edge.from) (value edge.to) edge.gap left not end_rises most

  -- values that keep the others, and lack so much for the edge
  raised_until : (left : ℕ) (value : ℕ → ℤ) → All (KeepsEdge value) edges → (value edge.from +ℤ edge.gap) ≤ℤ (value edge.to +ℤ pos left) → Undeniable (HasValuesOrCycle (edge ∷ edges))
  raised_until zero value keeps most none = none (inl (value, All-cons (KeepsEdge value) edge edges (omega (arith, ints, most)) keeps))
  raised_until (suc left) value keeps most none =
      by_lt_z (value edge.to) (value edge.from +ℤ edge.gap)
      (λ more. all_told points (λ point. TightWalk edges value edge.to point) (λ told. elim (told edge.from) [
        | inl rises ↦ none (inr (closes value keeps rises more))
        | inr not ↦ raised_until left (raised value keeps told) (raised_keeps value keeps told) (raised_less value keeps told left not most) none
      ]))
      (λ kept. none (inl (value, All-cons (KeepsEdge value) edge edges kept keeps)))

-- ---- all edges

-- one number is greater than another by so much at most
most_above : (low high : ℤ) → (left : ℕ) × (high ≤ℤ (low +ℤ pos left))
most_above low high = by (high -ℤ low) refl
  where
    by : (gap : ℤ) → (high -ℤ low) ≡ gap → (left : ℕ) × (high ≤ℤ (low +ℤ pos left))
    by (pos left) same = (left, omega (arith, ints, same))
    by (negsuc below) same = (0, omega (arith, ints, same))

pub values_or_cycle : (points : ℕ) (edges : List Edge) → All (JoinsBelow points) edges → Undeniable (HasValuesOrCycle edges)
values_or_cycle points [] joins none = none (inl ((λ point. pos 0), All-nil (KeepsEdge (λ point. pos 0))))
values_or_cycle points (edge ∷ edges) joins none =
    values_or_cycle points edges (All-tail (JoinsBelow points) edge edges joins) (λ which. elim which [
      | inl values ↦
          (let most = most_above (values.0 edge.to) (values.0 edge.from +ℤ edge.gap) in
          raised_until points edges edge (All-tail (JoinsBelow points) edge edges joins) (All-head (JoinsBelow points) edge edges joins) most.0 values.0 values.1 most.1 none)
      | inr cycle ↦ none (inr (HasPositiveCycle-within edges (edge ∷ edges) (λ other there. contains_later edge other edges there) cycle))
    ])

-- values that keep the edges are, from the origin on, a schedule
pub schedule_from_values : (edges : List Edge) (value : ℕ → ℤ) → All (KeepsEdge value) edges → (time : ℕ → ℤ) × IsSchedule edges time
schedule_from_values edges value keeps = (
  (λ point. value point -ℤ value 0),
  record {
    origin = omega (arith, ints);
    keeps = All-weaker (KeepsEdge value) (KeepsEdge (λ point. value point -ℤ value 0)) (λ edge kept. omega (arith, ints)) edges keeps;
  },
)
