-- Values of points after one is written, and their sum.
use borrow.Author.Differences.{up, down}
use Rattle.std.proofs.Common.{◌≡◌, ◌≢◌, ℕ, suc, zero, ◌+◌, ◌-◌, ◌<◌, ℤ, pos, ◌+ℤ◌, ◌≤ℤ◌, List, [], ◌∷◌, length, set, arith}
use Rattle.std.proofs.lemmas.Int.{ints}
use Rattle.std.proofs.lemmas.List.{get_or-set_same, get_or-set_other}
use Rattle.temporal_core.specs.Satisfied.{value_at, value_sum}

pub value_at-set_same : (values : List ℤ) (point : ℕ) (value : ℤ) → point < length values → value_at (set values point value) point ≡ value
value_at-set_same values point value h = get_or-set_same values point value (pos 0) h

pub value_at-set_other : (values : List ℤ) (point other : ℕ) (value : ℤ) → other ≢ point → value_at (set values point value) other ≡ value_at values other
value_at-set_other values point other value h = get_or-set_other values point other value (pos 0) h

pub total-set : (values : List ℤ) (point : ℕ) (value : ℤ) → point < length values → value_sum (set values point value) +ℤ value_at values point ≡ value_sum values +ℤ value
total-set [] point value h = absurd (omega arith)
total-set (first ∷ values) zero value h = omega (arith, ints)
total-set (first ∷ values) (suc point) value h = let rest = total-set values point value (omega arith) in omega (arith, ints)

-- the sum if each value were greater by as much
abbrev pub top : ℤ → List ℤ → ℤ
top delta [] = pos 0
top delta (value ∷ values) = (value +ℤ delta) +ℤ top delta values

-- values that are greater by that much at most
pub value_sum-le-top : (delta : ℤ) (old new : List ℤ) → length new ≡ length old → ((point : ℕ) → value_at new point ≤ℤ (value_at old point +ℤ delta)) → value_sum new ≤ℤ top delta old
value_sum-le-top delta [] [] count each = omega (arith, ints)
value_sum-le-top delta [] (value ∷ new) count each = absurd (omega arith)
value_sum-le-top delta (value ∷ old) [] count each = absurd (omega arith)
value_sum-le-top delta (first ∷ old) (value ∷ new) count each =
    let here = each zero in
    let rest = value_sum-le-top delta old new (omega arith) (λ point. each (suc point)) in
    omega (arith, ints)

-- where values rise by one for each that comes to wait, less is left to do
pub less_left : (most one two : ℤ) (waiting pushed : ℕ) → two ≤ℤ most → (pos pushed +ℤ one) ≤ℤ two
    → ((up most + down two) - (up two + down most)) + (waiting + pushed) < ((up most + down one) - (up one + down most)) + suc waiting
less_left most one two waiting pushed below gain = omega (arith, ints)
