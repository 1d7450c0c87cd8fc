-- Sums over the changes, by their places in the list.
use Rattle.std.specs.Prelude.{ℕ, zero, suc, ◌==◌, if◌then◌else◌, ℤ, pos, ◌+ℤ◌, int_lt, List, [], ◌∷◌, length}
use Rattle.std.specs.Prelude.{slice_index_or}
use Rattle.flow_envelope.specs.declared.change.PointChange.{PointChange}
use Rattle.flow_envelope.specs.declared.change.Amount.{Amount}

-- the change at the place
abbrev pub change_at : List PointChange → ℕ → PointChange
change_at changes place = slice_index_or changes place (record { point = 0; add = pos 0 })

-- the sum of the numbers at all places below the count
abbrev pub sum_below : (ℕ → ℤ) → ℕ → ℤ
sum_below numbers zero = pos 0
sum_below numbers (suc count) = sum_below numbers count +ℤ numbers count

-- what the change adds, if the schedule has its point at or before the instant
unfoldable pub added_by : ℤ → (ℕ → ℤ) → PointChange → ℤ
added_by at value change = if int_lt at (value change.point) then pos 0 else change.add

-- the sum of the adds of all changes whose point the schedule has at or before the instant
abbrev pub sum_by : ℤ → (ℕ → ℤ) → List PointChange → ℤ
sum_by at value changes = sum_below (λ place. added_by at value (change_at changes place)) (length changes)

-- the amount, if the end of it that is asked for is this place
unfoldable pub share : (Amount → ℕ) → Amount → ℕ → ℤ
share end amount place = if end amount == place then amount.amount else pos 0

-- the sum of the amounts that have this place as the end that is asked for
abbrev pub sum_at : (Amount → ℕ) → List Amount → ℕ → ℤ
sum_at end [] place = pos 0
sum_at end (amount ∷ amounts) place = share end amount place +ℤ sum_at end amounts place

-- the sum of the amounts from the change at the place
abbrev pub sum_from : List Amount → ℕ → ℤ
sum_from amounts place = sum_at (λ amount. amount.from) amounts place

-- the sum of the amounts to the change at the place
abbrev pub sum_to : List Amount → ℕ → ℤ
sum_to amounts place = sum_at (λ amount. amount.to) amounts place
