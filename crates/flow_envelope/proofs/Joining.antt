-- Greatest values, and where there are none least ones that are moved: a schedule.
use Rattle.std.proofs.Common.{◌≡◌, ℕ, ◌<◌, ◌≤◌, ℤ, pos, ◌+ℤ◌, ◌-ℤ◌, ◌≤ℤ◌, ◌<ℤ◌, ◌⊎◌, inl, inr, ⊎_elim, List, ◌++◌, length, map, Option, Some, None, MatchOption, refl, sym, ap, ◌∙◌, subst, arith}
use Rattle.std.specs.Prelude.{All, Contains, ⊤}
use Rattle.std.proofs.lemmas.Int.{ints}
use Rattle.std.proofs.lemmas.Bool.{cases_lt}
use Rattle.std.proofs.lemmas.List.{get_or_past}
use Rattle.std.proofs.lemmas.List.Elements.{All-append, All-map, All-contains}
use Rattle.temporal_core.specs.declared.edges.Edge.{Edge}
use Rattle.temporal_core.specs.Network.{IsEdge}
use Rattle.temporal_core.specs.Schedule.{KeepsEdge, IsLeastValue, IsGreatestValue, AreLeastValues, AreGreatestValues}
use Rattle.temporal_core.specs.Satisfied.{value_at, IsNear}
use Rattle.temporal_core.proofs.Members.{all_from_contains}
use Rattle.flow_envelope.specs.Peak.{IsInstant}
use Rattle.flow_envelope.specs.Pins.{early_edge, late_edge, HasSchedule}
use Rattle.flow_envelope.specs.Latest.{bound_at, AreFree, joined_of, CanBeLifted, AreUpTo, IsLatest}
use Rattle.flow_envelope.proofs.Nearness.{least_near}
use Rattle.flow_envelope.proofs.Meeting.{joined_all, fewer_edges, late_schedule, late_point}

option_cases : (one : Option ℤ) → ((number : ℤ) × (one ≡ Some number)) ⊎ (one ≡ None)
option_cases (Some number) = inl (number, refl)
option_cases None = inr refl

up_to_some : (limit number : ℤ) (one : Option ℤ) → one ≡ Some number → MatchOption one ⊤ (λ value. value ≤ℤ limit) → number ≤ℤ limit
up_to_some limit number one is up = let P : Option ℤ → Type 0 = λ o. MatchOption o ⊤ (λ value. value ≤ℤ limit) in subst P is up

-- ---- edges that keep points on one side are edges

pub early_edges : (points : ℕ) (at : ℤ) (pins : List ℕ) → IsInstant at → All (λ point. point < points) pins → All (IsEdge points) (map (early_edge at) pins)
early_edges points at pins instant all =
    let low = instant.0 in
    let high = instant.1 in
    All-map (IsEdge points) (early_edge at) pins
    (all_from_contains (λ point. IsEdge points (early_edge at point)) pins (λ point there. record {
      from = All-contains (λ p. p < points) pins point all there;
      to = omega (arith, All-contains (λ p. p < points) pins point all there);
      low = omega (arith, ints);
      high = omega (arith, ints);
    }))

pub late_edges : (points : ℕ) (at : ℤ) (free : List ℕ) → 0 < points → IsInstant at → ((point : ℕ) → Contains free point → point < points) → All (IsEdge points) (map (late_edge at) free)
late_edges points at free some instant all =
    let low = instant.0 in
    let high = instant.1 in
    All-map (IsEdge points) (late_edge at) free
    (all_from_contains (λ point. IsEdge points (late_edge at point)) free (λ point there. record {
      from = some;
      to = all point there;
      low = omega (arith, ints);
      high = omega (arith, ints);
    }))

module _ (points : ℕ) (edges more : List Edge) (at : ℤ) (instant : IsInstant at) (some : 0 < points) (few : points ≤ 65536) (each : All (IsEdge points) edges)
    (greatest : List (Option ℤ)) (are_greatest : AreGreatestValues points (edges ++ more) greatest) (have : HasSchedule (edges ++ more))
    (free : List ℕ) (are_free : AreFree greatest (length greatest) free) where
  no_greatest : (point : ℕ) → point < points → bound_at greatest point ≡ None → IsGreatestValue (edges ++ more) point None
  no_greatest point within none = subst (IsGreatestValue (edges ++ more) point) none (are_greatest.each point within)

  a_greatest : (point : ℕ) (number : ℤ) → point < points → bound_at greatest point ≡ Some number → IsGreatestValue (edges ++ more) point (Some number)
  a_greatest point number within is = subst (IsGreatestValue (edges ++ more) point) is (are_greatest.each point within)

  pub free_within : (point : ℕ) → Contains free point → point < points
  free_within point there = omega (arith, (are_free.each point there).0, are_greatest.count)

  -- the points without a greatest value can all be after the instant
  pub late_have : HasSchedule (edges ++ map (late_edge at) free)
  late_have =
      let all = joined_all edges at (have.0, fewer_edges edges more have.0 have.1) free
      (λ point there.
      let none = no_greatest point (free_within point there) (are_free.each point there).1 in
      let one = none (at +ℤ pos 1) in
      (one.0, fewer_edges edges more one.0 one.1, let above = one.2 in omega (arith, ints))) in
      (all.0, late_schedule edges at free all.0 all.1 all.2)

  module _ (least : List (Option ℤ)) (are_least : AreLeastValues points (edges ++ map (late_edge at) free) least) where
    late_each : All (IsEdge points) (edges ++ map (late_edge at) free)
    late_each = All-append (IsEdge points) edges (map (late_edge at) free) each (late_edges points at free some instant free_within)

    -- a point without a greatest value has a least one with the late edges
    least_some : (point : ℕ) (one : Option ℤ) → Contains free point → IsLeastValue (edges ++ map (late_edge at) free) point one → (number : ℤ) × (one ≡ Some number) × (at <ℤ number) × (number ≤ℤ pos 131072000000)
    least_some point None there is =
        let low = is at in
        let after = late_point edges at free low.0 point low.1 there in
        let before = low.2 in
        absurd (omega (arith, ints))
    least_some point (Some number) there is =
        let after = late_point edges at free is.1.0 point is.1.1 there in
        let same = is.1.2 in
        (number, refl, omega (arith, ints), least_near points (edges ++ map (late_edge at) free) some few late_each point number is)

    free_least : (point : ℕ) → point < points → bound_at greatest point ≡ None → (number : ℤ) × (bound_at least point ≡ Some number) × (at <ℤ number) × (number ≤ℤ pos 131072000000)
    free_least point within none = least_some point (bound_at least point) (are_free.all point (omega (arith, are_greatest.count, within)) none) (are_least.each point within)

    lift_one : (high low : Option ℤ) → (high ≡ None → (number : ℤ) × (low ≡ Some number) × (at <ℤ number) × (number ≤ℤ pos 131072000000)) → CanBeLifted high low
    lift_one (Some number) low free = tt
    lift_one None low free =
        let is = free refl in
        let start = instant.0 in
        let after = is.2 in
        let near = is.3 in
        let P : Option ℤ → Type 0 = λ o. MatchOption o ⊤ IsNear in
        subst P (sym is.1) (omega (arith, ints), omega (arith, ints))

    pub can_be_lifted : (point : ℕ) → CanBeLifted (bound_at greatest point) (bound_at least point)
    can_be_lifted point =
        ⊎_elim
        (λ within. lift_one (bound_at greatest point) (bound_at least point) (λ none. free_least point within none))
        (λ past.
        let no_high : bound_at greatest point ≡ None = get_or_past greatest point None (omega (arith, are_greatest.count, past)) in
        let no_low : bound_at least point ≡ None = get_or_past least point None (omega (arith, are_least.count, past)) in
        subst (λ (o : Option ℤ). CanBeLifted o (bound_at least point)) (sym no_high) (subst (λ (o : Option ℤ). CanBeLifted None o) (sym no_low) tt))
        (cases_lt point points)

    module _ (top lift : ℤ) (top_low : pos 0 ≤ℤ top) (up_to : AreUpTo top greatest) (lift_is : lift ≡ top +ℤ pos 3000001)
        (values : List ℤ) (count : length values ≡ length greatest) (each_value : (point : ℕ) → point < length greatest → value_at values point ≡ joined_of (bound_at greatest point) (bound_at least point) lift) where
      shape : (point : ℕ) → point < points
          → ((number : ℤ) × (bound_at greatest point ≡ Some number) × (value_at values point ≡ number) × (number ≤ℤ top))
          ⊎ ((number : ℤ) × (bound_at greatest point ≡ None) × (bound_at least point ≡ Some number) × (at <ℤ number) × (value_at values point ≡ number +ℤ lift))
      shape point within =
          let is = each_value point (omega (arith, are_greatest.count, within)) in
          ⊎_elim
          (λ known. inl (known.0, known.1, is ∙ ap (λ (o : Option ℤ). joined_of o (bound_at least point) lift) known.1, up_to_some top known.0 (bound_at greatest point) known.1 (up_to point)))
          (λ none.
          let low = free_least point within none in
          inr (low.0, none, low.1, low.2, is ∙ (ap (λ (o : Option ℤ). joined_of o (bound_at least point) lift) none ∙ ap (λ (o : Option ℤ). joined_of None o lift) low.1)))
          (option_cases (bound_at greatest point))

      keeps_edge : (edge : Edge) → Contains edges edge → KeepsEdge (value_at values) edge
      keeps_edge edge there =
          let joins = All-contains (IsEdge points) edges edge each there in
          let wide = joins.high in
          let start = instant.0 in
          ⊎_elim
          (λ from.
          let from_is = from.2 in
          let from_top = from.3 in
          ⊎_elim
          (λ to.
          let to_is = to.2 in
          let has_from = a_greatest edge.from from.0 joins.from from.1 in
          let has_to = a_greatest edge.to to.0 joins.to to.1 in
          let at_from = has_from.1.2 in
          let most = has_to.0 has_from.1.0 has_from.1.1 in
          let keeps = All-contains (KeepsEdge has_from.1.0) edges edge (fewer_edges edges more has_from.1.0 has_from.1.1).keeps there in
          omega (arith, ints))
          (λ to.
          let to_is = to.4 in
          let after = to.3 in
          omega (arith, ints))
          (shape edge.to joins.to))
          (λ from.
          let from_is = from.4 in
          ⊎_elim
          (λ to.
          let has_to = a_greatest edge.to to.0 joins.to to.1 in
          let high = no_greatest edge.from joins.from from.1 ((to.0 -ℤ edge.gap) +ℤ pos 1) in
          let above = high.2 in
          let most = has_to.0 high.0 high.1 in
          let keeps = All-contains (KeepsEdge high.0) edges edge (fewer_edges edges more high.0 high.1).keeps there in
          absurd (omega (arith, ints)))
          (λ to.
          let to_is = to.4 in
          let has_from = subst (IsLeastValue (edges ++ map (late_edge at) free) edge.from) from.2 (are_least.each edge.from joins.from) in
          let has_to = subst (IsLeastValue (edges ++ map (late_edge at) free) edge.to) to.2 (are_least.each edge.to joins.to) in
          let at_to = has_to.1.2 in
          let low = has_from.0 has_to.1.0 has_to.1.1 in
          let keeps = All-contains (KeepsEdge has_to.1.0) edges edge (fewer_edges edges (map (late_edge at) free) has_to.1.0 has_to.1.1).keeps there in
          omega (arith, ints))
          (shape edge.to joins.to))
          (shape edge.from joins.from)

      pub is_latest : IsLatest points edges (edges ++ more) at values
      is_latest = record {
        count = count ∙ are_greatest.count;
        schedule = record {
          origin =
              ⊎_elim
              (λ known.
              let is = known.2 in
              let has = a_greatest 0 known.0 some known.1 in
              let at_origin = has.1.2 in
              let origin = has.1.1.origin in
              omega (arith, ints))
              (λ free_one.
              let high = no_greatest 0 some free_one.1 (pos 1) in
              let above = high.2 in
              let origin = high.1.origin in
              absurd (omega (arith, ints)))
              (shape 0 some);
          keeps = all_from_contains (KeepsEdge (value_at values)) edges keeps_edge;
        };
        latest = λ point within early value schedule.
            let end = instant.1 in
            let start = instant.0 in
            ⊎_elim
            (λ known.
            let is = known.2 in
            let most = (a_greatest point known.0 within known.1).0 value schedule in
            omega (arith, ints))
            (λ free_one.
            let is = free_one.4 in
            let after = free_one.3 in
            absurd (omega (arith, ints)))
            (shape point within);
        early = λ point within all.
            ⊎_elim
            (λ known.
            let is = known.2 in
            let has = a_greatest point known.0 within known.1 in
            let at_point = has.1.2 in
            let before = all has.1.0 has.1.1 in
            omega (arith, ints))
            (λ free_one.
            let high = no_greatest point within free_one.1 (at +ℤ pos 1) in
            let above = high.2 in
            let before = all high.0 high.1 in
            absurd (omega (arith, ints)))
            (shape point within);
      }
