-- A cut shows that no schedule has more than its sum.
use Rattle.std.proofs.Common.{◌≡◌, ℕ, ◌<◌, ℤ, pos, ◌≤ℤ◌, ◌<ℤ◌, ⊎_elim, Bool, true, false, List, length, refl, subst, arith}
use Rattle.std.proofs.lemmas.Int.{ints}
use Rattle.std.proofs.lemmas.Bool.{both_ways}
use Rattle.temporal_core.specs.declared.edges.Edge.{Edge}
use Rattle.temporal_core.specs.Schedule.{IsSchedule}
use Rattle.flow_envelope.specs.declared.change.PointChange.{PointChange}
use Rattle.flow_envelope.specs.declared.change.Amount.{Amount}
use Rattle.flow_envelope.specs.Sums.{change_at, sum_by, sum_from, sum_to}
use Rattle.flow_envelope.specs.Pairs.{pair_at}
use Rattle.flow_envelope.specs.Cut.{IsAmount, IsLeftToAdd, IsLeftToTake, IsCut}
use Rattle.flow_envelope.proofs.Adding.{compared, lt_true, lt_false, lt_from, kept, kept-most, weighed-most, is_late, rest_of, balanced, sum_at-other, sum_below-most}

pub kept_late : (late : Bool) (number most : ℤ) → late ≡ true → pos 0 ≤ℤ most → kept late number ≤ℤ most
kept_late true number most is low = omega (arith, ints)
kept_late false number most is low = absurd (both_ways false refl is)

pub kept_early : (late : Bool) (number : ℤ) → late ≡ false → kept late number ≡ number
kept_early true number is = absurd (both_ways true is refl)
kept_early false number is = refl

kept_low : (late : Bool) (number : ℤ) → number ≤ℤ pos 0 → kept late number ≤ℤ pos 0
kept_low true number low = omega (arith, ints)
kept_low false number low = low

kept_some : (late : Bool) (number most : ℤ) → pos 0 ≤ℤ number → most ≡ number → kept late number ≤ℤ most
kept_some true number most low is = omega (arith, ints)
kept_some false number most low is = omega (arith, ints)

module _ (edges : List Edge) (changes : List PointChange) (at : ℤ) (cut : List Amount) (sum : ℤ) (is : IsCut edges changes at cut sum) (value : ℕ → ℤ) (schedule : IsSchedule edges value) where
  amount_there : (k : ℕ) → k < length cut → IsAmount edges changes (pair_at cut k)
  amount_there k h = is.amounts k (record { from = 0; to = 0; amount = pos 0 }) h

  -- of each amount, no more goes by the instant than comes
  fewer : (k : ℕ) → k < length cut → kept (is_late changes at value (pair_at cut k).from) (pair_at cut k).amount ≤ℤ kept (is_late changes at value (pair_at cut k).to) (pair_at cut k).amount
  fewer k h =
      let amount = amount_there k h in
      let some = amount.some in
      let before = amount.precedes value schedule in
      kept-most (is_late changes at value (pair_at cut k).from) (is_late changes at value (pair_at cut k).to) (pair_at cut k).amount (omega (arith, ints))
      (λ to_late.
      let after = lt_from at (value (change_at changes (pair_at cut k).to).point) to_late in
      lt_true at (value (change_at changes (pair_at cut k).from).point) (omega (arith, ints)))

  none_to : (place : ℕ) → pos 0 ≤ℤ (change_at changes place).add → sum_to cut place ≡ pos 0
  none_to place adds = sum_at-other (λ pair. pair.to) cut place (λ k h same.
      let amount = amount_there k h in
      let takes = subst (λ p. (change_at changes p).add <ℤ pos 0) same amount.takes in
      omega (arith, ints))

  none_from : (place : ℕ) → (change_at changes place).add ≤ℤ pos 0 → sum_from cut place ≡ pos 0
  none_from place takes = sum_at-other (λ pair. pair.from) cut place (λ k h same.
      let amount = amount_there k h in
      let adds = subst (λ p. pos 0 <ℤ (change_at changes p).add) same amount.adds in
      omega (arith, ints))

  of_adder : (place : ℕ) (left : ℤ) → place < length changes → pos 0 <ℤ (change_at changes place).add → IsLeftToAdd edges at (change_at changes place) (sum_from cut place) left
      → kept (is_late changes at value place) (rest_of changes cut place) ≤ℤ left
  of_adder place left h adds says =
      let come = none_to place (omega (arith, ints)) in
      let gone = is.from place h adds in
      ⊎_elim
      (λ may.
      let is_left = may.1 in
      kept_some (is_late changes at value place) (rest_of changes cut place) left (omega (arith, ints)) (omega (arith, ints)))
      (λ after.
      let is_left = after.1 in
      kept_late (is_late changes at value place) (rest_of changes cut place) left (lt_true at (value (change_at changes place).point) (after.0 value schedule)) (omega (arith, ints)))
      says

  of_taker : (place : ℕ) (left : ℤ) → place < length changes → (change_at changes place).add <ℤ pos 0 → IsLeftToTake edges at (change_at changes place) (sum_to cut place) left
      → kept (is_late changes at value place) (rest_of changes cut place) ≤ℤ left
  of_taker place left h takes says =
      let gone = none_from place (omega (arith, ints)) in
      let come = is.to place h takes in
      ⊎_elim
      (λ by.
      let is_left = by.1 in
      let early = kept_early (is_late changes at value place) (rest_of changes cut place) (lt_false at (value (change_at changes place).point) (by.0 value schedule)) in
      omega (arith, ints))
      (λ may.
      let is_left = may.1 in
      let low = kept_low (is_late changes at value place) (rest_of changes cut place) (omega (arith, ints)) in
      omega (arith, ints))
      says

  of_none : (place : ℕ) (left : ℤ) → (change_at changes place).add ≡ pos 0 → left ≡ pos 0 → kept (is_late changes at value place) (rest_of changes cut place) ≤ℤ left
  of_none place left none is_left =
      let gone = none_from place (omega (arith, ints)) in
      let come = none_to place (omega (arith, ints)) in
      let low = kept_low (is_late changes at value place) (rest_of changes cut place) (omega (arith, ints)) in
      omega (arith, ints)

  -- no change counts for less than what is left of it
  left_most : (place : ℕ) → place < length changes → kept (is_late changes at value place) (rest_of changes cut place) ≤ℤ is.left place
  left_most place h =
      let says = is.each place h in
      ⊎_elim
      (λ adds. of_adder place (is.left place) h adds.1 (says.adds adds.1))
      (λ not_adds.
      ⊎_elim
      (λ takes. of_taker place (is.left place) h takes.1 (says.takes takes.1))
      (λ not_takes.
      let low = not_adds.1 in
      let high = not_takes.1 in
      let none : (change_at changes place).add ≡ pos 0 = omega (arith, ints) in
      of_none place (is.left place) none (says.neither none))
      (compared (change_at changes place).add (pos 0)))
      (compared (pos 0) (change_at changes place).add)

  pub no_more : sum_by at value changes ≤ℤ sum
  no_more =
      let all = balanced changes at value cut (λ k h. (amount_there k h).from) (λ k h. (amount_there k h).to) in
      let less = weighed-most (λ pair. pair.from) (λ pair. pair.to) (is_late changes at value) cut fewer in
      let most = sum_below-most (λ place. kept (is_late changes at value place) (rest_of changes cut place)) is.left (length changes) left_most in
      let total = is.total in
      omega (arith, ints)
