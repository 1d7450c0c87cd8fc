-- When no more can be carried, what is left is the sum of a schedule, and the amounts are a cut.
use Rattle.std.proofs.Common.{◌≡◌, ℕ, ◌+◌, ◌<◌, ◌≤◌, ℤ, pos, negsuc, neg_ℤ, ◌+ℤ◌, ◌-ℤ◌, ◌≤ℤ◌, ◌<ℤ◌, inl, inr, ⊎_elim, Bool, true, List, ◌++◌, length, map, get_or, refl, sym, ap, ◌∙◌, subst, arith}
use Rattle.std.specs.Prelude.{All, Contains, int_lt, ⊤}
use Rattle.std.specs.List.{filter}
use Rattle.std.proofs.lemmas.Int.{ints}
use Rattle.std.proofs.lemmas.Bool.{cases_lt, cond-true, cond-false}
use Rattle.std.proofs.lemmas.List.{length-map, get_or-map, get_or_past}
use Rattle.std.proofs.lemmas.List.Elements.{All-filter, filter_passes, All-from_get_or, All-get_or}
use Rattle.temporal_core.specs.declared.edges.Edge.{Edge}
use Rattle.temporal_core.specs.Schedule.{IsSchedule}
use Rattle.temporal_core.specs.Satisfied.{value_at}
use Rattle.flow_envelope.specs.declared.change.PointChange.{PointChange}
use Rattle.flow_envelope.specs.declared.change.Amount.{Amount}
use Rattle.flow_envelope.specs.declared.certain.Certainty.{Certainty}
use Rattle.flow_envelope.specs.declared.certain.Certainty.TheVariants.{Sure, Maybe, Never}
use Rattle.flow_envelope.specs.declared.labels.Label.{Label}
use Rattle.flow_envelope.specs.Sums.{change_at, sum_below, sum_by, sum_from, sum_to}
use Rattle.flow_envelope.specs.Times.{MayBeBy, Precedes, MayPart}
use Rattle.flow_envelope.specs.Cut.{IsAmount, IsLeft, IsCut}
use Rattle.flow_envelope.specs.Peak.{IsChange, IsPeak}
use Rattle.flow_envelope.specs.Certain.{IsCertainty, certain_at, AreCertain}
use Rattle.flow_envelope.specs.Pins.{early_edge, HasSchedule}
use Rattle.flow_envelope.specs.Pairs.{pair_at, IsTaker, IsCandidate, ArePairs}
use Rattle.flow_envelope.specs.Flow.{IsFlow, IsMoved}
use Rattle.flow_envelope.specs.Labels.{label_at, AreClosed}
use Rattle.flow_envelope.specs.Filling.{to_give, to_take}
use Rattle.flow_envelope.specs.Latest.{IsLatest}
use Rattle.flow_envelope.specs.Finish.{left_of, left_at, IsPinned, ArePins}
use Rattle.flow_envelope.proofs.Adding.{compared, lt_true, lt_false, lt_from, has_amount, sum_at-none, sum_at-low, sum_at-filter, sum_below-same, sum_below-next, kept, kept-none, weighed-same, is_late, rest_of, balanced}
use Rattle.flow_envelope.proofs.Cutting.{kept_early, no_more}
use Rattle.flow_envelope.proofs.Meeting.{met_above, met_all, early_schedule, early_point}

-- ---- what a change has to give, and room for

give_adds : (change : PointChange) → pos 0 <ℤ change.add → to_give change ≡ change.add
unfolding to_give
give_adds change adds = cond-true (int_lt (pos 0) change.add) change.add (pos 0) (lt_true (pos 0) change.add adds)

give_none : (change : PointChange) → change.add ≤ℤ pos 0 → to_give change ≡ pos 0
unfolding to_give
give_none change takes = cond-false (int_lt (pos 0) change.add) change.add (pos 0) (lt_false (pos 0) change.add takes)

take_takes : (change : PointChange) → change.add <ℤ pos 0 → to_take change ≡ neg_ℤ change.add
unfolding to_take
take_takes change takes = cond-true (int_lt change.add (pos 0)) (neg_ℤ change.add) (pos 0) (lt_true change.add (pos 0) takes)

take_none : (change : PointChange) → pos 0 ≤ℤ change.add → to_take change ≡ pos 0
unfolding to_take
take_none change adds = cond-false (int_lt change.add (pos 0)) (neg_ℤ change.add) (pos 0) (lt_false change.add (pos 0) adds)

give_take : (change : PointChange) → change.add ≡ to_give change -ℤ to_take change
give_take change =
    ⊎_elim
    (λ adds. let above = adds.1 in let give = give_adds change above in let taken = take_none change (omega (arith, ints)) in omega (arith, ints))
    (λ none.
    let below = none.1 in
    let give = give_none change below in
    ⊎_elim
    (λ takes. let taken = take_takes change takes.1 in omega (arith, ints))
    (λ not_takes. let above = not_takes.1 in let taken = take_none change above in omega (arith, ints))
    (compared change.add (pos 0)))
    (compared (pos 0) change.add)

give_range : (change : PointChange) → negsuc 999999 ≤ℤ change.add → change.add ≤ℤ pos 1000000 → (pos 0 ≤ℤ to_give change) × (to_give change ≤ℤ pos 1000000)
give_range change low high =
    ⊎_elim
    (λ adds. let above = adds.1 in let give = give_adds change above in (omega (arith, ints), omega (arith, ints)))
    (λ none. let give = give_none change none.1 in (omega (arith, ints), omega (arith, ints)))
    (compared (pos 0) change.add)

take_range : (change : PointChange) → negsuc 999999 ≤ℤ change.add → change.add ≤ℤ pos 1000000 → (pos 0 ≤ℤ to_take change) × (to_take change ≤ℤ pos 1000000)
take_range change low high =
    ⊎_elim
    (λ takes. let below = takes.1 in let taken = take_takes change below in (omega (arith, ints), omega (arith, ints)))
    (λ none. let taken = take_none change none.1 in (omega (arith, ints), omega (arith, ints)))
    (compared change.add (pos 0))

change_past : (changes : List PointChange) (place : ℕ) → length changes ≤ place → (change_at changes place).add ≡ pos 0
change_past changes place past = ap (λ (change : PointChange). change.add) (get_or_past changes place (record { point = 0; add = pos 0 }) past)

give_at : (changes : List PointChange) (place : ℕ) → value_at (map to_give changes) place ≡ to_give (change_at changes place)
give_at changes place =
    ⊎_elim
    (λ within. get_or-map to_give changes place (record { point = 0; add = pos 0 }) (pos 0) within)
    (λ past.
    let none = change_past changes place past in
    get_or_past (map to_give changes) place (pos 0) (omega (arith, past, length-map changes to_give)) ∙ sym (give_none (change_at changes place) (omega (arith, ints))))
    (cases_lt place (length changes))

take_at : (changes : List PointChange) (place : ℕ) → value_at (map to_take changes) place ≡ to_take (change_at changes place)
take_at changes place =
    ⊎_elim
    (λ within. get_or-map to_take changes place (record { point = 0; add = pos 0 }) (pos 0) within)
    (λ past.
    let none = change_past changes place past in
    get_or_past (map to_take changes) place (pos 0) (omega (arith, past, length-map changes to_take)) ∙ sym (take_none (change_at changes place) (omega (arith, ints))))
    (cases_lt place (length changes))

change_within : (points : ℕ) (changes : List PointChange) (place : ℕ) → All (IsChange points) changes → place < length changes → IsChange points (change_at changes place)
change_within points changes place all within = All-get_or (IsChange points) changes place (record { point = 0; add = pos 0 }) within all

change_range : (points : ℕ) (changes : List PointChange) (place : ℕ) → All (IsChange points) changes → (negsuc 999999 ≤ℤ (change_at changes place).add) × ((change_at changes place).add ≤ℤ pos 1000000)
change_range points changes place all =
    ⊎_elim
    (λ within. let is = change_within points changes place all within in (is.low, is.high))
    (λ past. let none = change_past changes place past in (omega (arith, ints), omega (arith, ints)))
    (cases_lt place (length changes))

-- ---- what a change counts for

left_one : (edges : List Edge) (at : ℤ) (change : PointChange) → HasSchedule edges → (certain : Certainty) → IsCertainty edges at change.point certain → (more room gone come : ℤ)
    → pos 0 ≤ℤ more → pos 0 ≤ℤ room → pos 0 ≤ℤ gone → pos 0 ≤ℤ come → more +ℤ gone ≡ to_give change → room +ℤ come ≡ to_take change → IsLeft edges at change gone come (left_of certain more room)
left_one edges at change have Sure is more room gone come low_more low_room low_gone low_come give taken = record {
  adds = λ adds. let gives = give_adds change adds in let takes = take_none change (omega (arith, ints)) in inl ((have.0, have.1, is have.0 have.1), omega (arith, ints));
  takes = λ takes. let gives = give_none change (omega (arith, ints)) in let takes_it = take_takes change takes in inl (is, omega (arith, ints));
  neither = λ none. let gives = give_none change (omega (arith, ints)) in let takes = take_none change (omega (arith, ints)) in omega (arith, ints);
}
left_one edges at change have Maybe is more room gone come low_more low_room low_gone low_come give taken = record {
  adds = λ adds. let gives = give_adds change adds in inl (is.0, omega (arith, ints));
  takes = λ takes. let gives = give_none change (omega (arith, ints)) in inr (is.1, omega (arith, ints));
  neither = λ none. let gives = give_none change (omega (arith, ints)) in omega (arith, ints);
}
left_one edges at change have Never is more room gone come low_more low_room low_gone low_come give taken = record {
  adds = λ adds. inr (is, refl);
  takes = λ takes. inr ((have.0, have.1, is have.0 have.1), refl);
  neither = λ none. refl;
}

kept_nothing : (one other : Bool) (number : ℤ) → number ≡ pos 0 → kept one number ≡ kept other number
kept_nothing one other number none = ap (kept one) none ∙ (kept-none one ∙ (sym (kept-none other) ∙ ap (kept other) (sym none)))

kept_true : (late : Bool) (number : ℤ) → late ≡ true → kept late number ≡ pos 0
kept_true late number is = ap (λ b. kept b number) is

-- ---- how it begins

module _ (points : ℕ) (edges : List Edge) (changes : List PointChange) (at : ℤ) (certain : List Certainty) (few : length changes ≤ 1024) (all : All (IsChange points) changes)
    (first : List Amount) (are_pairs : ArePairs edges changes at certain (λ one other. ⊤) first) where
  begun_amount : (place : ℕ) → (pair_at first place).amount ≡ pos 0
  begun_amount place =
      ⊎_elim
      (λ within. are_pairs.idle place within)
      (λ past. ap (λ (pair : Amount). pair.amount) (get_or_past first place (record { from = 0; to = 0; amount = pos 0 }) past))
      (cases_lt place (length first))

  begun_from : (place : ℕ) → sum_from first place ≡ pos 0
  begun_from place = sum_at-none (λ pair. pair.from) first place are_pairs.idle

  begun_to : (place : ℕ) → sum_to first place ≡ pos 0
  begun_to place = sum_at-none (λ pair. pair.to) first place are_pairs.idle

  pub begun_flow : IsFlow first (map to_give changes) (map to_take changes)
  begun_flow = record {
    few = omega (arith, few, length-map changes to_give);
    count = length-map changes to_take ∙ sym (length-map changes to_give);
    from = λ place within. omega (arith, (are_pairs.each place within).candidate.adder_there, length-map changes to_give);
    to = λ place within. omega (arith, (are_pairs.each place within).candidate.taker_there, length-map changes to_give);
    amounts = λ place. let none = begun_amount place in omega (arith, ints);
    low_more = λ place. let is = give_at changes place in let range = change_range points changes place all in let low = (give_range (change_at changes place) range.0 range.1).0 in omega (arith, ints);
    low_room = λ place. let is = take_at changes place in let range = change_range points changes place all in let low = (take_range (change_at changes place) range.0 range.1).0 in omega (arith, ints);
    most_from = λ place. let is = give_at changes place in let none = begun_from place in let range = change_range points changes place all in let high = (give_range (change_at changes place) range.0 range.1).1 in omega (arith, ints);
    most_to = λ place. let is = take_at changes place in let none = begun_to place in let range = change_range points changes place all in let high = (take_range (change_at changes place) range.0 range.1).1 in omega (arith, ints);
  }

  -- ---- how it ends

  module _ (are_certain : AreCertain edges changes at certain) (have : HasSchedule edges) (pairs : List Amount) (more room : List ℤ) (flow : IsFlow pairs more room)
      (moved : IsMoved first (map to_give changes) (map to_take changes) pairs more room) where
    give_total : (place : ℕ) → (value_at more place +ℤ sum_from pairs place) ≡ to_give (change_at changes place)
    give_total place = let same = moved.all_from place in let is = give_at changes place in let none = begun_from place in omega (arith, ints)

    take_total : (place : ℕ) → (value_at room place +ℤ sum_to pairs place) ≡ to_take (change_at changes place)
    take_total place = let same = moved.all_to place in let is = take_at changes place in let none = begun_to place in omega (arith, ints)

    low_from : (place : ℕ) → pos 0 ≤ℤ sum_from pairs place
    low_from place = sum_at-low (λ pair. pair.from) pairs place flow.amounts

    low_to : (place : ℕ) → pos 0 ≤ℤ sum_to pairs place
    low_to place = sum_at-low (λ pair. pair.to) pairs place flow.amounts

    rest_is : (place : ℕ) → rest_of changes pairs place ≡ value_at more place -ℤ value_at room place
    rest_is place = let give = give_total place in let taken = take_total place in let both = give_take (change_at changes place) in omega (arith, ints)

    candidate_there : (k : ℕ) → k < length pairs → IsCandidate changes certain (pair_at pairs k).from (pair_at pairs k).to
    candidate_there k within =
        let is = are_pairs.each k (omega (arith, within, moved.count)) in
        subst (λ j. IsCandidate changes certain j (pair_at pairs k).to) (sym (moved.from k)) (subst (λ j. IsCandidate changes certain (pair_at first k).from j) (sym (moved.to k)) is.candidate)

    precedes_there : (k : ℕ) → k < length pairs → Precedes edges (change_at changes (pair_at pairs k).to).point (change_at changes (pair_at pairs k).from).point
    precedes_there k within =
        let is = are_pairs.each k (omega (arith, within, moved.count)) in
        subst (λ j. Precedes edges (change_at changes (pair_at pairs k).to).point (change_at changes j).point) (sym (moved.from k))
        (subst (λ j. Precedes edges (change_at changes j).point (change_at changes (pair_at first k).from).point) (sym (moved.to k)) is.precedes)

    -- ---- the cut

    amount_there : (k : ℕ) → k < length pairs → pos 0 <ℤ (pair_at pairs k).amount → IsAmount edges changes (pair_at pairs k)
    amount_there k within some =
        let is = candidate_there k within in
        record {
          some = some;
          from = is.adder_there;
          to = is.taker_there;
          adds = is.adds;
          takes = is.takes;
          precedes = precedes_there k within;
        }

    pub is_cut : IsCut edges changes at (filter has_amount pairs) (sum_below (left_at certain more room) (length changes))
    is_cut = record {
      amounts = λ k d within.
          All-filter has_amount (λ (pair : Amount). pos 0 <ℤ pair.amount → IsAmount edges changes pair) pairs
          (All-from_get_or (λ (pair : Amount). pos 0 <ℤ pair.amount → IsAmount edges changes pair) pairs (record { from = 0; to = 0; amount = pos 0 }) amount_there) k d within
          (lt_from (pos 0) (get_or (filter has_amount pairs) k d).amount (filter_passes has_amount pairs k d within));
      from = λ place within adds.
          let same = sum_at-filter (λ pair. pair.from) pairs place flow.amounts in
          let give = give_total place in
          let is = give_adds (change_at changes place) adds in
          let low = flow.low_more place in
          omega (arith, ints);
      to = λ place within takes.
          let same = sum_at-filter (λ pair. pair.to) pairs place flow.amounts in
          let taken = take_total place in
          let is = take_takes (change_at changes place) takes in
          let low = flow.low_room place in
          omega (arith, ints);
      left = left_at certain more room;
      each = λ place within.
          let same_from = sum_at-filter (λ pair. pair.from) pairs place flow.amounts in
          let same_to = sum_at-filter (λ pair. pair.to) pairs place flow.amounts in
          subst (λ gone. IsLeft edges at (change_at changes place) gone (sum_to (filter has_amount pairs) place) (left_at certain more room place)) (sym same_from)
          (subst (λ come. IsLeft edges at (change_at changes place) (sum_from pairs place) come (left_at certain more room place)) (sym same_to)
          (left_one edges at (change_at changes place) have (certain_at certain place) (are_certain.each place within) (value_at more place) (value_at room place) (sum_from pairs place) (sum_to pairs place)
          (flow.low_more place) (flow.low_room place) (low_from place) (low_to place) (give_total place) (take_total place)));
      total = refl;
    }

    -- ---- the schedule

    module _ (adders takers : List Label) (closed : AreClosed pairs more room adders takers) (pins : List ℕ) (are_pins : ArePins changes certain adders (length changes) pins) where
      point_within : (place : ℕ) → place < length changes → (change_at changes place).point < points
      point_within place within = (change_within points changes place all within).point

      pub pins_within : (point : ℕ) → Contains pins point → point < points
      pins_within point there =
          let pin = are_pins.each point there in
          subst (λ p. p < points) pin.2 (point_within pin.0 pin.1.within)

      pinned_may : (place : ℕ) → IsPinned changes certain adders place → MayBeBy edges at (change_at changes place).point
      pinned_may place pinned = (subst (IsCertainty edges at (change_at changes place).point) pinned.maybe (are_certain.each place pinned.within)).0

      -- the pins can all be early
      pub pins_have : HasSchedule (edges ++ map (early_edge at) pins)
      pins_have =
          let one = met_all edges at (λ value. ⊤) (λ u v first_too second_too. tt) (have.0, have.1, tt) pins
          (λ point there.
          let pin = are_pins.each point there in
          let may = pinned_may pin.0 pin.1 in
          (may.0, may.1, subst (λ p. may.0 p ≤ℤ at) pin.2 may.2, tt)) in
          (one.0, early_schedule edges at pins one.0 one.1 one.2)

      -- no labelled taker is before a pin
      pinned_parts : (place taker : ℕ) → IsPinned changes certain adders place → IsTaker changes certain taker → 0 < (label_at takers taker).rank → MayPart edges at (change_at changes place).point (change_at changes taker).point
      pinned_parts place taker pinned is_taker ranked =
          ⊎_elim
          (λ has.
          let within : has.0 < length pairs = omega (arith, has.1, moved.count) in
          let from : (pair_at pairs has.0).from ≡ place = moved.from has.0 ∙ has.2 in
          let to : (pair_at pairs has.0).to ≡ taker = moved.to has.0 ∙ has.3 in
          let labelled = (closed.settled has.0 within).back (subst (λ j. 0 < (label_at takers j).rank) (sym to) ranked) in
          let own = subst (λ j. 0 < (label_at adders j).rank) from labelled in
          absurd (omega (arith, own, pinned.none)))
          (λ part. part)
          (are_pairs.told place taker (record {
            adder_there = pinned.within;
            taker_there = is_taker.within;
            adds = pinned.adds;
            takes = is_taker.takes;
            adder_maybe = pinned.maybe;
            taker_maybe = is_taker.maybe;
          }) tt)

      module _ (values : List ℤ) (latest : IsLatest points edges (edges ++ map (early_edge at) pins) at values) where
        pin_early : (place : ℕ) → IsPinned changes certain adders place → value_at values (change_at changes place).point ≤ℤ at
        pin_early place pinned = latest.early (change_at changes place).point (point_within place pinned.within)
            (λ value schedule. early_point edges at pins value (change_at changes place).point schedule (are_pins.all place pinned.within pinned))

        late_labelled : (taker : ℕ) → IsTaker changes certain taker → 0 < (label_at takers taker).rank → at <ℤ value_at values (change_at changes taker).point
        late_labelled taker is_taker ranked =
            let point = (change_at changes taker).point in
            ⊎_elim
            (λ late. late.1)
            (λ early.
            let may = (subst (IsCertainty edges at point) is_taker.maybe (are_certain.each taker is_taker.within)).1 in
            let one = met_all edges at (λ value. at <ℤ value point) (λ u v first_too second_too. met_above u v (pos 0) point at first_too (omega (arith, ints))) (may.0, may.1, may.2) pins
            (λ other there.
            let pin = are_pins.each other there in
            let part = pinned_parts pin.0 taker pin.1 is_taker ranked in
            (part.0, part.1, subst (λ p. part.0 p ≤ℤ at) pin.2 part.2, part.3)) in
            let before = latest.latest point (point_within taker is_taker.within) early.1 one.0 (early_schedule edges at pins one.0 one.1 one.2) in
            let after = one.3 in
            absurd (omega (arith, ints)))
            (compared at (value_at values point))

        -- of each amount, as much goes by the instant as comes
        fair : (k : ℕ) → k < length pairs → kept (is_late changes at (value_at values) (pair_at pairs k).from) (pair_at pairs k).amount ≡ kept (is_late changes at (value_at values) (pair_at pairs k).to) (pair_at pairs k).amount
        fair k within =
            let is = candidate_there k within in
            let from = (change_at changes (pair_at pairs k).from).point in
            let to = (change_at changes (pair_at pairs k).to).point in
            let before = precedes_there k within (value_at values) latest.schedule in
            let taker : IsTaker changes certain (pair_at pairs k).to = record { within = is.taker_there; takes = is.takes; maybe = is.taker_maybe } in
            ⊎_elim
            (λ some.
            ⊎_elim
            (λ to_late.
            let late = to_late.1 in
            ap (λ b. kept b (pair_at pairs k).amount) (lt_true at (value_at values from) (omega (arith, ints)) ∙ sym (lt_true at (value_at values to) late)))
            (λ to_early.
            let early = to_early.1 in
            let from_early : value_at values from ≤ℤ at =
            pin_early (pair_at pairs k).from (record {
              within = is.adder_there;
              adds = is.adds;
              maybe = is.adder_maybe;
              none =
                  ⊎_elim
                  (λ ranked.
                  let after = late_labelled (pair_at pairs k).to taker ((closed.settled k within).forth some.1 ranked) in
                  absurd (omega (arith, ints)))
                  (λ none. omega (arith, none))
                  (cases_lt 0 (label_at adders (pair_at pairs k).from).rank);
            }) in
            ap (λ b. kept b (pair_at pairs k).amount) (lt_false at (value_at values from) from_early ∙ sym (lt_false at (value_at values to) early)))
            (compared at (value_at values to)))
            (λ none.
            let low = flow.amounts k in
            let high = none.1 in
            kept_nothing (is_late changes at (value_at values) (pair_at pairs k).from) (is_late changes at (value_at values) (pair_at pairs k).to) (pair_at pairs k).amount (omega (arith, ints)))
            (compared (pos 0) (pair_at pairs k).amount)

        even_maybe : (place : ℕ) → place < length changes → certain_at certain place ≡ Maybe → kept (is_late changes at (value_at values) place) (rest_of changes pairs place) ≡ value_at more place
        even_maybe place within maybe =
            let rest = rest_is place in
            let give = give_total place in
            let taken = take_total place in
            let more_low = flow.low_more place in
            let room_low = flow.low_room place in
            let from_low = low_from place in
            let to_low = low_to place in
            let point = (change_at changes place).point in
            ⊎_elim
            (λ some.
            let has_more = some.1 in
            let adds : pos 0 <ℤ (change_at changes place).add =
            ⊎_elim (λ above. above.1) (λ below. let none = give_none (change_at changes place) below.1 in absurd (omega (arith, ints))) (compared (pos 0) (change_at changes place).add) in
            let no_room = take_none (change_at changes place) (omega (arith, ints)) in
            let early = pin_early place (record {
              within = within;
              adds = adds;
              maybe = maybe;
              none = ⊎_elim (λ ranked. let spent = closed.spent place ranked in absurd (omega (arith, ints))) (λ none. omega (arith, none)) (cases_lt 0 (label_at adders place).rank);
            }) in
            let is = kept_early (is_late changes at (value_at values) place) (rest_of changes pairs place) (lt_false at (value_at values point) early) in
            omega (arith, ints))
            (λ no_more.
            let spent = no_more.1 in
            ⊎_elim
            (λ some_room.
            let has_room = some_room.1 in
            let takes : (change_at changes place).add <ℤ pos 0 =
            ⊎_elim (λ below. below.1) (λ above. let none = take_none (change_at changes place) above.1 in absurd (omega (arith, ints))) (compared (change_at changes place).add (pos 0)) in
            let late = late_labelled place (record { within = within; takes = takes; maybe = maybe }) (closed.seeds place has_room) in
            let is = kept_true (is_late changes at (value_at values) place) (rest_of changes pairs place) (lt_true at (value_at values point) late) in
            omega (arith, ints))
            (λ no_room.
            let full = no_room.1 in
            let is = kept_nothing (is_late changes at (value_at values) place) true (rest_of changes pairs place) (omega (arith, ints)) in
            is ∙ (let none : pos 0 ≡ value_at more place = omega (arith, ints) in none))
            (compared (pos 0) (value_at room place)))
            (compared (pos 0) (value_at more place))

        even_at : (place : ℕ) → place < length changes → (what : Certainty) → certain_at certain place ≡ what → IsCertainty edges at (change_at changes place).point what
            → kept (is_late changes at (value_at values) place) (rest_of changes pairs place) ≡ left_of what (value_at more place) (value_at room place)
        even_at place within Sure is by =
            kept_early (is_late changes at (value_at values) place) (rest_of changes pairs place) (lt_false at (value_at values (change_at changes place).point) (by (value_at values) latest.schedule)) ∙ rest_is place
        even_at place within Maybe is may = even_maybe place within is
        even_at place within Never is after =
            kept_true (is_late changes at (value_at values) place) (rest_of changes pairs place) (lt_true at (value_at values (change_at changes place).point) (after (value_at values) latest.schedule))

        pub has_sum : sum_by at (value_at values) changes ≡ sum_below (left_at certain more room) (length changes)
        has_sum =
            let both = balanced changes at (value_at values) pairs (λ k h. (candidate_there k h).adder_there) (λ k h. (candidate_there k h).taker_there) in
            let same = weighed-same (λ pair. pair.from) (λ pair. pair.to) (is_late changes at (value_at values)) pairs fair in
            let rests = sum_below-same (λ place. kept (is_late changes at (value_at values) place) (rest_of changes pairs place)) (left_at certain more room) (length changes)
            (λ place within. even_at place within (certain_at certain place) refl (are_certain.each place within)) in
            omega (arith, ints)

        -- all that is answered
        pub is_peak : (sum : ℤ) (schedule : List ℤ) (cut : List Amount) → sum ≡ sum_below (left_at certain more room) (length changes) → schedule ≡ values → cut ≡ filter has_amount pairs
            → IsPeak (record { points = points; edges = edges }) changes at (record { sum = sum; schedule = schedule; cut = cut })
        is_peak sum schedule cut sum_is schedule_is cut_is =
            let shows : IsCut edges changes at cut sum =
            subst (λ (list : List Amount). IsCut edges changes at list sum) (sym cut_is) (subst (IsCut edges changes at (filter has_amount pairs)) (sym sum_is) is_cut) in
            record {
              count = ap (λ (list : List ℤ). length list) schedule_is ∙ latest.count;
              schedule = subst (λ (list : List ℤ). IsSchedule edges (value_at list)) (sym schedule_is) latest.schedule;
              sum = subst (λ (list : List ℤ). sum_by at (value_at list) changes ≡ sum) (sym schedule_is) (has_sum ∙ sym sum_is);
              greatest = λ value is. no_more edges changes at cut sum shows value is;
              cut = shows;
            }

left_range : (what : Certainty) (more room : ℤ) → pos 0 ≤ℤ more → more ≤ℤ pos 1000000 → pos 0 ≤ℤ room → room ≤ℤ pos 1000000 → (neg_ℤ (pos 1000000) ≤ℤ left_of what more room) × (left_of what more room ≤ℤ pos 1000000)
left_range Sure more room low high low_room high_room = (omega (arith, ints), omega (arith, ints))
left_range Maybe more room low high low_room high_room = (omega (arith, ints), omega (arith, ints))
left_range Never more room low high low_room high_room = (omega (arith, ints), omega (arith, ints))

-- one more of the numbers that are left
pub left_more : (certain : List Certainty) (more room : List ℤ) (place : ℕ) (sum one : ℤ) → sum ≡ sum_below (left_at certain more room) place → one ≡ left_at certain more room place
    → pos 0 ≤ℤ value_at more place → value_at more place ≤ℤ pos 1000000 → pos 0 ≤ℤ value_at room place → value_at room place ≤ℤ pos 1000000
    → ((sum +ℤ one) ≡ sum_below (left_at certain more room) (place + 1)) × (neg_ℤ (pos 1000000) ≤ℤ one) × (one ≤ℤ pos 1000000)
left_more certain more room place sum one sum_is one_is low high low_room high_room =
    let next = sum_below-next (left_at certain more room) place in
    let range = left_range (certain_at certain place) (value_at more place) (value_at room place) low high low_room high_room in
    let range_low = range.0 in
    let range_high = range.1 in
    (omega (arith, ints), omega (arith, ints), omega (arith, ints))
