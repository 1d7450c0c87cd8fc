-- No least or greatest value is far above the origin: where the values of a schedule leave a gap that is wider than any
-- edge, all above it may be moved.
use Rattle.std.proofs.Common.{◌≡◌, ℕ, suc, zero, ◌+◌, ◌*◌, ◌<◌, ◌≤◌, ℤ, pos, negsuc, ◌+ℤ◌, ◌≤ℤ◌, ◌<ℤ◌, ◌⊎◌, inl, inr, ⊎_elim, cond, List, Option, Some, None, MatchOption, get_or, sym, ◌∙◌, subst, arith}
use Rattle.std.specs.Prelude.{All, int_lt, ⊤}
use Rattle.std.proofs.lemmas.Int.{ints}
use Rattle.std.proofs.lemmas.Bool.{cases_lt, cases_eq, cond-true, cond-false}
use Rattle.std.proofs.lemmas.List.{get_or_past}
use Rattle.std.proofs.lemmas.List.Elements.{All-contains}
use Rattle.temporal_core.specs.declared.edges.Edge.{Edge}
use Rattle.temporal_core.specs.Network.{IsEdge}
use Rattle.temporal_core.specs.Schedule.{KeepsEdge, IsSchedule, IsLeastValue, IsGreatestValue, AreGreatestValues}
use Rattle.temporal_core.proofs.Members.{all_from_contains}
use Rattle.flow_envelope.specs.Latest.{AreUpTo}
use Rattle.flow_envelope.proofs.Adding.{compared, lt_true, lt_false}

-- ---- how many of the points are up to a limit

one_of : ℤ → ℤ → ℕ
one_of limit value = cond (int_lt limit value) 0 1

one_below : (limit value : ℤ) → value ≤ℤ limit → one_of limit value ≡ 1
unfolding one_of
one_below limit value below = cond-false (int_lt limit value) 0 1 (lt_false limit value below)

one_above : (limit value : ℤ) → limit <ℤ value → one_of limit value ≡ 0
unfolding one_of
one_above limit value above = cond-true (int_lt limit value) 0 1 (lt_true limit value above)

one_most : (limit value : ℤ) → one_of limit value ≤ 1
one_most limit value = ⊎_elim (λ above. omega (arith, one_above limit value above.1)) (λ below. omega (arith, one_below limit value below.1)) (compared limit value)

one_grows : (low high value : ℤ) → low ≤ℤ high → one_of low value ≤ one_of high value
one_grows low high value less =
    ⊎_elim
    (λ above. omega (arith, one_above low value above.1))
    (λ below. let under = below.1 in omega (arith, one_below low value under, one_below high value (omega (arith, ints))))
    (compared low value)

count_most : (ℕ → ℤ) → ℤ → ℕ → ℕ
count_most value limit zero = 0
count_most value limit (suc n) = one_of limit (value n) + count_most value limit n

count_length : (value : ℕ → ℤ) (limit : ℤ) (n : ℕ) → count_most value limit n ≤ n
unfolding count_most
count_length value limit zero = omega arith
count_length value limit (suc n) = omega (arith, count_length value limit n, one_most limit (value n))

count_grows : (value : ℕ → ℤ) (low high : ℤ) (n : ℕ) → low ≤ℤ high → count_most value low n ≤ count_most value high n
unfolding count_most
count_grows value low high zero less = omega arith
count_grows value low high (suc n) less = omega (arith, count_grows value low high n less, one_grows low high (value n) less)

count_more : (value : ℕ → ℤ) (low high : ℤ) (n place : ℕ) → low ≤ℤ high → place < n → low <ℤ value place → value place ≤ℤ high → suc (count_most value low n) ≤ count_most value high n
unfolding count_most
count_more value low high zero place less within above below = absurd (omega arith)
count_more value low high (suc n) place less within above below =
    ⊎_elim
    (λ same.
    let none = one_above low (value n) (subst (λ k. low <ℤ value k) same above) in
    let one = one_below high (value n) (subst (λ k. value k ≤ℤ high) same below) in
    omega (arith, none, one, count_grows value low high n less))
    (λ other. omega (arith, count_more value low high n place less (omega arith) above below, one_grows low high (value n) less))
    (cases_eq place n)

-- ---- a gap among the values

find_in : (value : ℕ → ℤ) (low high : ℤ) (n : ℕ) → ((place : ℕ) × (place < n) × (low <ℤ value place) × (value place ≤ℤ high)) ⊎ ((place : ℕ) → place < n → (value place ≤ℤ low) ⊎ (high <ℤ value place))
find_in value low high zero = inr (λ place within. absurd (omega arith))
find_in value low high (suc n) =
    ⊎_elim
    (λ found. inl (found.0, omega (arith, found.1), found.2, found.3))
    (λ none.
    ⊎_elim
    (λ above.
    ⊎_elim
    (λ past. inr (λ place within. ⊎_elim (λ same. inr (subst (λ k. high <ℤ value k) (sym same) past.1)) (λ other. none place (omega (arith, within, other))) (cases_eq place n)))
    (λ below. inl (n, omega arith, above.1, below.1))
    (compared high (value n)))
    (λ under. inr (λ place within. ⊎_elim (λ same. inl (subst (λ k. value k ≤ℤ low) (sym same) under.1)) (λ other. none place (omega (arith, within, other))) (cases_eq place n)))
    (compared low (value n)))
    (find_in value low high n)

-- no value lies between these multiples of the widest gap
abbrev IsGap : (ℕ → ℤ) → ℕ → ℕ → Type 0
IsGap value n step = (place : ℕ) → place < n → (value place ≤ℤ pos (2000000 * step)) ⊎ (pos (2000000 * suc step) <ℤ value place)

gaps : (value : ℕ → ℤ) (n : ℕ) → value 0 ≡ pos 0 → 0 < n → (steps : ℕ) → ((step : ℕ) × (step < steps) × IsGap value n step) ⊎ (suc steps ≤ count_most value (pos (2000000 * steps)) n)
gaps value n origin some zero =
    inr (omega (arith, count_more value (negsuc 0) (pos (2000000 * 0)) n 0 (omega (arith, ints)) some (omega (arith, ints, origin)) (omega (arith, ints, origin))))
gaps value n origin some (suc steps) =
    ⊎_elim
    (λ found. inl (found.0, omega (arith, found.1), found.2))
    (λ many.
    ⊎_elim
    (λ one. inr (omega (arith, many, count_more value (pos (2000000 * steps)) (pos (2000000 * suc steps)) n one.0 (omega (arith, ints)) one.1 one.2 one.3)))
    (λ none. inl (steps, omega arith, none))
    (find_in value (pos (2000000 * steps)) (pos (2000000 * suc steps)) n))
    (gaps value n origin some steps)

gap_there : (value : ℕ → ℤ) (n : ℕ) → value 0 ≡ pos 0 → 0 < n → (step : ℕ) × (step < n) × IsGap value n step
gap_there value n origin some =
    ⊎_elim
    (λ found. found)
    (λ many. absurd (omega (arith, many, count_length value (pos (2000000 * n)) n)))
    (gaps value n origin some n)

-- ---- all above a gap are moved

moved : (ℕ → ℤ) → ℤ → ℤ → ℕ → ℤ
moved value limit by point = cond (int_lt limit (value point)) (value point +ℤ by) (value point)

moved_above : (value : ℕ → ℤ) (limit by : ℤ) (point : ℕ) → limit <ℤ value point → moved value limit by point ≡ value point +ℤ by
unfolding moved
moved_above value limit by point above = cond-true (int_lt limit (value point)) (value point +ℤ by) (value point) (lt_true limit (value point) above)

moved_below : (value : ℕ → ℤ) (limit by : ℤ) (point : ℕ) → value point ≤ℤ limit → moved value limit by point ≡ value point
unfolding moved
moved_below value limit by point below = cond-false (int_lt limit (value point)) (value point +ℤ by) (value point) (lt_false limit (value point) below)

module _ (points : ℕ) (edges : List Edge) (some : 0 < points) (few : points ≤ 65536) (each : All (IsEdge points) edges) where
  moved_edge : (value : ℕ → ℤ) (step : ℕ) (by : ℤ) (edge : Edge) → IsGap value points step → negsuc 0 ≤ℤ by → by ≤ℤ pos 1 → IsEdge points edge → KeepsEdge value edge → KeepsEdge (moved value (pos (2000000 * step)) by) edge
  moved_edge value step by edge gap low high joins keeps =
      let narrow = joins.low in
      let wide = joins.high in
      ⊎_elim
      (λ from_below.
      let from = moved_below value (pos (2000000 * step)) by edge.from from_below in
      ⊎_elim
      (λ to_below. let to = moved_below value (pos (2000000 * step)) by edge.to to_below in omega (arith, ints))
      (λ to_above. let to = moved_above value (pos (2000000 * step)) by edge.to (omega (arith, ints)) in omega (arith, ints))
      (gap edge.to joins.to))
      (λ from_above.
      let from = moved_above value (pos (2000000 * step)) by edge.from (omega (arith, ints)) in
      ⊎_elim
      (λ to_below. absurd (omega (arith, ints)))
      (λ to_above. let to = moved_above value (pos (2000000 * step)) by edge.to (omega (arith, ints)) in omega (arith, ints))
      (gap edge.to joins.to))
      (gap edge.from joins.from)

  moved_schedule : (value : ℕ → ℤ) (step : ℕ) (by : ℤ) → IsGap value points step → negsuc 0 ≤ℤ by → by ≤ℤ pos 1 → IsSchedule edges value → IsSchedule edges (moved value (pos (2000000 * step)) by)
  moved_schedule value step by gap low high schedule = record {
    origin = let start = schedule.origin in moved_below value (pos (2000000 * step)) by 0 (omega (arith, ints)) ∙ schedule.origin;
    keeps = all_from_contains (KeepsEdge (moved value (pos (2000000 * step)) by)) edges (λ edge there.
        moved_edge value step by edge gap low high (All-contains (IsEdge points) edges edge each there) (All-contains (KeepsEdge value) edges edge schedule.keeps there));
  }

  -- a schedule with a value that is far above the origin has another one, with that value so much greater or less
  moved_there : (value : ℕ → ℤ) (by : ℤ) (point : ℕ) → negsuc 0 ≤ℤ by → by ≤ℤ pos 1 → IsSchedule edges value → pos 131072000000 <ℤ value point
      → (other : ℕ → ℤ) × IsSchedule edges other × (other point ≡ value point +ℤ by)
  moved_there value by point low high schedule above =
      let gap = gap_there value points schedule.origin some in
      let within = gap.1 in (
        moved value (pos (2000000 * gap.0)) by,
        moved_schedule value gap.0 by gap.2 low high schedule,
        moved_above value (pos (2000000 * gap.0)) by point (omega (arith, ints)),
      )

  pub greatest_near : (point : ℕ) (number : ℤ) → IsGreatestValue edges point (Some number) → number ≤ℤ pos 131072000000
  greatest_near point number is =
      ⊎_elim
      (λ above.
      let at = is.1.2 in
      let over = above.1 in
      let other = moved_there is.1.0 (pos 1) point (omega (arith, ints)) (omega (arith, ints)) is.1.1 (omega (arith, ints)) in
      let up = other.2 in
      let most = is.0 other.0 other.1 in
      absurd (omega (arith, ints)))
      (λ below. below.1)
      (compared (pos 131072000000) number)

  pub least_near : (point : ℕ) (number : ℤ) → IsLeastValue edges point (Some number) → number ≤ℤ pos 131072000000
  least_near point number is =
      ⊎_elim
      (λ above.
      let at = is.1.2 in
      let over = above.1 in
      let other = moved_there is.1.0 (negsuc 0) point (omega (arith, ints)) (omega (arith, ints)) is.1.1 (omega (arith, ints)) in
      let down = other.2 in
      let least = is.0 other.0 other.1 in
      absurd (omega (arith, ints)))
      (λ below. below.1)
      (compared (pos 131072000000) number)

  up_to : (point : ℕ) (one : Option ℤ) → IsGreatestValue edges point one → MatchOption one ⊤ (λ value. value ≤ℤ pos 131072000000)
  up_to point None is = tt
  up_to point (Some number) is = let near = greatest_near point number is in omega (arith, ints)

  pub greatest_up_to : (greatest : List (Option ℤ)) → AreGreatestValues points edges greatest → AreUpTo (pos 131072000000) greatest
  greatest_up_to greatest are point =
      ⊎_elim
      (λ within. up_to point (get_or greatest point None) (are.each point within))
      (λ past. subst (λ (one : Option ℤ). MatchOption one ⊤ (λ value. value ≤ℤ pos 131072000000)) (sym (get_or_past greatest point None (omega (arith, are.count, past)))) tt)
      (cases_lt point points)
