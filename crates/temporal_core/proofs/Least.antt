-- The least values, from values that were raised with the origin.
use Rattle.std.proofs.Common.{◌≡◌, ℕ, ◌<◌, ◌≤◌, ℤ, pos, negsuc, neg_ℤ, ◌-ℤ◌, ◌≤ℤ◌, ◌<ℤ◌, ◌⊎◌, inl, inr, ⊎_elim, true, false, cond, List, [], ◌∷◌, length, get_or, map, Option, Some, None, sym, ◌∙◌, ap, subst, w64, to_z, of_z, arith}
use Rattle.std.specs.Prelude.{Contains, All, int_lt, MatchOption, ⊤}
use Rattle.std.proofs.lemmas.Int.{ints, by_lt_z}
use Rattle.std.proofs.lemmas.List.{get_or_past, get_or-map, length-map}
use Rattle.std.proofs.lemmas.Bool.{cases_lt}
use Rattle.std.proofs.lemmas.List.Elements.{All-contains}
use Rattle.temporal_core.specs.declared.edges.Edge.{Edge}
use Rattle.temporal_core.specs.Network.{IsEdge}
use Rattle.temporal_core.specs.Schedule.{KeepsEdge, IsSchedule, IsLeastValue, AreLeastValues}
use Rattle.temporal_core.specs.Cycle.{LeadsFrom, gap_sum}
use Rattle.temporal_core.specs.Satisfied.{value_at, far, Raises, Exceeds, AreSatisfied}
use Rattle.temporal_core.specs.Bounds.{far_below, TellsPoint, AreNear}
use Rattle.temporal_core.proofs.Members.{all_from_contains}
use Rattle.temporal_core.proofs.Walks.{Contains-head, Contains-tail, path_or_cycle, rises_along, none_keeps}
use Rattle.temporal_core.proofs.Satisfying.{path_modest, satisfied_modest}

-- a walk of edges among the points ends at one of them
ends_within : (points from to : ℕ) (steps : List Edge) → ((edge : Edge) → Contains steps edge → edge.to < points) → from < points → LeadsFrom from steps to → to < points
ends_within points from to [] each within leads = subst (λ x. x < points) leads within
ends_within points from to (edge ∷ steps) each within leads =
    ends_within points edge.to to steps (λ other among. each other (Contains-tail edge steps other among)) (each edge (Contains-head edge steps)) leads.1

-- a number is at most some natural number
natural_above : (number : ℤ) → (n : ℕ) × (number ≤ℤ pos n)
natural_above (pos n) = (n, omega (arith, ints))
natural_above (negsuc n) = (0, omega (arith, ints))

below : (a b : ℤ) → ((int_lt a b ≡ true) × (a <ℤ b)) ⊎ ((int_lt a b ≡ false) × (b ≤ℤ a))
below a b = by_lt_z a b (λ under. inl (grind (arith, ints), under)) (λ above. inr (grind (arith, ints), above))

-- ---- the origin, as the code hands it on

pub cast_origin : (read values : List ℤ) → read ≡ values → pos 0 ≤ℤ value_at values 0 → value_at values 0 ≤ℤ pos 131072000000 → to_z w64 (of_z w64 (value_at read 0)) ≡ value_at values 0
cast_origin read values is low high = ap (λ xs. to_z w64 (of_z w64 (value_at xs 0))) is ∙ cast_value (value_at values 0) low high
  where
    cast_value : (value : ℤ) → pos 0 ≤ℤ value → value ≤ℤ pos 131072000000 → to_z w64 (of_z w64 value) ≡ value
    cast_value value low high = omega (arith, ints)

pub satisfied_near : (value : ℤ) → value ≤ℤ pos 131072000000 → value ≤ℤ far
satisfied_near value high = omega (arith, ints)

pub cast_modest : (z value : ℤ) → z ≡ value → pos 0 ≤ℤ value → value ≤ℤ pos 131072000000 → (pos 0 ≤ℤ z) × (z ≤ℤ far)
cast_modest z value is low high = (omega (arith, ints), omega (arith, ints))

module _ (points : ℕ) (edges : List Edge) (satisfied : List ℤ) (some : 0 < points) (few : points ≤ 65536) (each : All (IsEdge points) edges) (is_satisfied : AreSatisfied points edges satisfied) where
  pub low_at : (point : ℕ) → point < points → value_at (map far_below satisfied) point ≡ far_below (value_at satisfied point)
  low_at point within = get_or-map far_below satisfied point (pos 0) (pos 0) (omega (arith, is_satisfied.count))

  pub low_past : (point : ℕ) → points ≤ point → value_at (map far_below satisfied) point ≡ pos 0
  low_past point past = get_or_past (map far_below satisfied) point (pos 0) (omega (arith, is_satisfied.count, length-map satisfied far_below))

  -- none of the lowered values is too far down, or far up
  pub low_modest : (point : ℕ) → (neg_ℤ (pos 2199023255552) ≤ℤ value_at (map far_below satisfied) point) × (value_at (map far_below satisfied) point ≤ℤ pos 2199023255552)
  low_modest point =
      ⊎_elim
      (λ within. let is = low_at point within in let up = is_satisfied.low point in let down = satisfied_modest points edges satisfied few each is_satisfied point in (omega (arith, ints), omega (arith, ints)))
      (λ past. let is = low_past point past in (omega (arith, ints), omega (arith, ints)))
      (cases_lt point points)

  -- what isn't a point is not raised
  pub nothing_beyond : Exceeds edges 0 (value_at satisfied 0) points (map far_below satisfied) → ⊥
  nothing_beyond exceeds =
      let walk = exceeds.0 in
      let end = ends_within points 0 points walk.steps (λ edge among. (All-contains (IsEdge points) edges edge each (walk.within edge among)).to) some walk.leads in
      omega arith

  module _ (new : List ℤ) (raises : Raises edges 0 (value_at satisfied 0) points (map far_below satisfied) new) where
    origin_stays : value_at new 0 ≡ value_at satisfied 0
    origin_stays = let up = raises.started in let most = raises.high 0 in omega (arith, ints)

    pub new_modest : (point : ℕ) → (neg_ℤ (pos 2199023255552) ≤ℤ value_at new point) × (value_at new point ≤ℤ pos 2199023255552)
    new_modest point =
        let was = low_modest point in
        let rose = raises.low point in
        let most = raises.high point in
        let origin = low_at 0 some in
        ⊎_elim
        (λ within. let is = low_at point within in let down = satisfied_modest points edges satisfied few each is_satisfied point in (omega (arith, ints), omega (arith, ints)))
        (λ past. let is = low_past point past in (
          omega (arith, ints, was.0),
          ⊎_elim (λ same. omega (arith, ints)) (λ up.
              let end = ends_within points 0 point up.0.steps (λ edge among. (All-contains (IsEdge points) edges edge each (up.0.within edge among)).to) some up.0.leads in absurd (omega arith)) (raises.each point),
        ))
        (cases_lt point points)

    -- the values from the origin on
    from_origin : ℕ → ℤ
    from_origin point = value_at new point -ℤ value_at satisfied 0

    is_schedule : IsSchedule edges from_origin
    unfolding from_origin
    is_schedule = record {
      origin = let stays = origin_stays in omega (arith, ints);
      keeps = all_from_contains (KeepsEdge from_origin) edges (λ edge contained. let keeps = All-contains (KeepsEdge (value_at new)) edges edge raises.keeps contained in omega (arith, ints));
    }

    -- a point that was raised is no lower than a path from the origin can make it
    raised_high : (point : ℕ) → value_at (map far_below satisfied) point <ℤ value_at new point → neg_ℤ (pos 131072000000) ≤ℤ value_at new point
    raised_high point raised =
        ⊎_elim (λ same. absurd (omega (arith, ints)))
        (λ up.
        ⊎_elim (λ cycle. absurd (none_keeps (value_at new) edges raises.keeps cycle))
        (λ path.
        let modest = (path_modest points edges 0 point (gap_sum up.0.steps) few each path).0 in
        let rises = rises_along (value_at new) edges path.steps 0 point raises.keeps path.leads path.within in
        let origin = origin_stays in
        let zero = is_satisfied.low 0 in
        omega (arith, ints))
        (path_or_cycle edges up.0.steps 0 point up.0.leads up.0.within))
        (raises.each point)

    -- the same values with those that were not raised as much lower as one likes
    dropped : ℕ → ℕ → ℤ
    dropped more point = cond (int_lt (value_at (map far_below satisfied) point) (value_at new point)) (from_origin point) (from_origin point -ℤ pos more)

    dropped_raised : (more point : ℕ) → int_lt (value_at (map far_below satisfied) point) (value_at new point) ≡ true → dropped more point ≡ from_origin point
    unfolding dropped
    dropped_raised more point raised = rw raised

    dropped_unraised : (more point : ℕ) → int_lt (value_at (map far_below satisfied) point) (value_at new point) ≡ false → dropped more point ≡ from_origin point -ℤ pos more
    unfolding dropped
    dropped_unraised more point unraised = rw unraised

    dropped_keeps : (more : ℕ) (edge : Edge) → Contains edges edge → KeepsEdge (dropped more) edge
    unfolding from_origin
    dropped_keeps more edge contained =
        let keeps = All-contains (KeepsEdge (value_at new)) edges edge raises.keeps contained in
        let joins = All-contains (IsEdge points) edges edge each contained in
        ⊎_elim
        (λ from_raised.
        let from = dropped_raised more edge.from from_raised.0 in
        ⊎_elim
        (λ to_raised. let to = dropped_raised more edge.to to_raised.0 in omega (arith, ints))
        (λ to_unraised.
        let high = raised_high edge.from from_raised.1 in
        let is = low_at edge.to joins.to in
        let down = satisfied_modest points edges satisfied few each is_satisfied edge.to in
        let still = to_unraised.1 in
        let gap = joins.low in
        absurd (omega (arith, ints)))
        (below (value_at (map far_below satisfied) edge.to) (value_at new edge.to)))
        (λ from_unraised.
        let from = dropped_unraised more edge.from from_unraised.0 in
        ⊎_elim
        (λ to_raised. let to = dropped_raised more edge.to to_raised.0 in omega (arith, ints))
        (λ to_unraised. let to = dropped_unraised more edge.to to_unraised.0 in omega (arith, ints))
        (below (value_at (map far_below satisfied) edge.to) (value_at new edge.to)))
        (below (value_at (map far_below satisfied) edge.from) (value_at new edge.from))

    dropped_schedule : (more : ℕ) → IsSchedule edges (dropped more)
    unfolding from_origin
    dropped_schedule more = record {
      origin =
          let stays = origin_stays in
          let is = low_at 0 some in
          ⊎_elim (λ raised. dropped_raised more 0 raised.0 ∙ (let zero : value_at new 0 -ℤ value_at satisfied 0 ≡ pos 0 = omega (arith, ints) in zero))
          (λ unraised. let still = unraised.1 in absurd (omega (arith, ints)))
          (below (value_at (map far_below satisfied) 0) (value_at new 0));
      keeps = all_from_contains (KeepsEdge (dropped more)) edges (λ edge contained. dropped_keeps more edge contained);
    }

    pub least_told : (point : ℕ) (told : Option ℤ) → point < points → TellsPoint (value_at new point) (value_at satisfied point) (value_at satisfied 0) told → IsLeastValue edges point told
    unfolding from_origin
    least_told point (Some told) within tells = (
      (λ value schedule.
          let is = low_at point within in
          let up = tells.0 in
          let is_told = tells.1 in
          ⊎_elim (λ same. absurd (omega (arith, ints)))
          (λ walk. let rises = rises_along value edges walk.0.steps 0 point schedule.keeps walk.0.leads walk.0.within in let origin = schedule.origin in let value_is = walk.1 in omega (arith, ints))
          (raises.each point)),
      (from_origin, is_schedule, sym tells.1),
    )
    least_told point None within tells = λ limit.
        let is = low_at point within in
        let more = natural_above (from_origin point -ℤ limit) in (
          dropped more.0,
          dropped_schedule more.0,
          ⊎_elim (λ raised. let up = raised.1 in absurd (omega (arith, ints)))
              (λ unraised. let is_lower = dropped_unraised more.0 point unraised.0 in let enough = more.1 in omega (arith, ints))
              (below (value_at (map far_below satisfied) point) (value_at new point)),
        )

    -- what is told of all points
    module _ (told : List (Option ℤ)) (count : length told ≡ points) (tells : (point : ℕ) → point < points → TellsPoint (value_at new point) (value_at satisfied point) (value_at satisfied 0) (get_or told point None)) where
      pub least_told_all : AreLeastValues points edges told
      least_told_all = record { count = count; each = λ point within. least_told point (get_or told point None) within (tells point within) }

      near_one : (value first origin : ℤ) (one : Option ℤ) → pos 0 ≤ℤ first → pos 0 ≤ℤ origin → origin ≤ℤ pos 131072000000 → value ≤ℤ pos 2199023255552 → TellsPoint value first origin one
          → MatchOption one ⊤ (λ number. (neg_ℤ (pos 2199023255552) ≤ℤ number) × (number ≤ℤ pos 2199023255552))
      near_one value first origin None low origin_low origin_high high says = tt
      near_one value first origin (Some number) low origin_low origin_high high says = (omega (arith, ints, says.0, says.1), omega (arith, ints, says.0, says.1))

      pub near_told_all : AreNear told
      near_told_all point =
          ⊎_elim
          (λ within. near_one (value_at new point) (value_at satisfied point) (value_at satisfied 0) (get_or told point None) (is_satisfied.low point) (is_satisfied.low 0)
          (satisfied_modest points edges satisfied few each is_satisfied 0) (new_modest point).1 (tells point within))
          (λ past. subst (λ one. MatchOption one ⊤ (λ number. (neg_ℤ (pos 2199023255552) ≤ℤ number) × (number ≤ℤ pos 2199023255552))) (sym (get_or_past told point None (omega (arith, count)))) tt)
          (cases_lt point points)
