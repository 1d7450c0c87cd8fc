-- Amounts between places: how much more each place has to give, and how much room there is at each.
use Rattle.std.specs.Prelude.{◌≡◌, ◌≢◌, ℕ, ◌<◌, ◌≤◌, ℤ, pos, ◌+ℤ◌, ◌-ℤ◌, ◌≤ℤ◌}
use Rattle.std.specs.Prelude.{◌<ℤ◌, List, length, slice_set}
use Rattle.temporal_core.specs.Satisfied.{value_at, value_sum}
use Rattle.flow_envelope.specs.declared.change.Amount.{Amount}
use Rattle.flow_envelope.specs.Sums.{sum_from, sum_to}
use Rattle.flow_envelope.specs.Pairs.{pair_at}

-- no amount is negative, no place gives more than it has or gets more than there is room, and all is a million at most
pub record IsFlow (pairs : List Amount) (more room : List ℤ) : Type 0 where
  pub few : length more ≤ 1024
  pub count : length room ≡ length more
  pub from : (place : ℕ) → place < length pairs → (pair_at pairs place).from < length more
  pub to : (place : ℕ) → place < length pairs → (pair_at pairs place).to < length more
  pub amounts : (place : ℕ) → pos 0 ≤ℤ (pair_at pairs place).amount
  pub low_more : (place : ℕ) → pos 0 ≤ℤ value_at more place
  pub low_room : (place : ℕ) → pos 0 ≤ℤ value_at room place
  pub most_from : (place : ℕ) → (value_at more place +ℤ sum_from pairs place) ≤ℤ pos 1000000
  pub most_to : (place : ℕ) → (value_at room place +ℤ sum_to pairs place) ≤ℤ pos 1000000

-- the pair with so much more
abbrev pub with_amount : Amount → ℤ → Amount
with_amount pair by = record { from = pair.from; to = pair.to; amount = pair.amount +ℤ by }

-- so much more goes along the pair at the place
pub record IsCarried (place : ℕ) (by : ℤ) (pairs : List Amount) (more room : List ℤ) (pairs' : List Amount)
    (more' room' : List ℤ) : Type 0 where
  pub along : pairs' ≡ slice_set pairs place (with_amount (pair_at pairs place) by)
  pub gives : more' ≡ slice_set more (pair_at pairs place).from (value_at more (pair_at pairs place).from -ℤ by)
  pub gets : room' ≡ slice_set room (pair_at pairs place).to (value_at room (pair_at pairs place).to -ℤ by)

-- the pairs join the same places, and what each place has or had is the same in all
pub record IsMoved (pairs : List Amount) (more room : List ℤ) (pairs' : List Amount) (more' room' : List ℤ) : Type 0 where
  pub count : length pairs' ≡ length pairs
  pub more_count : length more' ≡ length more
  pub room_count : length room' ≡ length room
  pub from : (place : ℕ) → (pair_at pairs' place).from ≡ (pair_at pairs place).from
  pub to : (place : ℕ) → (pair_at pairs' place).to ≡ (pair_at pairs place).to
  pub all_from : (place : ℕ)
      → (value_at more' place +ℤ sum_from pairs' place) ≡ value_at more place +ℤ sum_from pairs place
  pub all_to : (place : ℕ) → (value_at room' place +ℤ sum_to pairs' place) ≡ value_at room place +ℤ sum_to pairs place

-- more was carried in all
pub record IsSent (pairs : List Amount) (more room : List ℤ) (pairs' : List Amount) (more' room' : List ℤ) : Type 0 where
  pub flow : IsFlow pairs' more' room'
  pub moved : IsMoved pairs more room pairs' more' room'
  pub less : value_sum more' <ℤ value_sum more

-- the amounts to the taker changed, and how much more some places have, but nothing in all; the giver has more now
pub record IsShifted (taker giver : ℕ) (pairs : List Amount) (more room : List ℤ) (pairs' : List Amount)
    (more' room' : List ℤ) : Type 0 where
  pub flow : IsFlow pairs' more' room'
  pub moved : IsMoved pairs more room pairs' more' room'
  pub sum : value_sum more' ≡ value_sum more
  pub same_room : (place : ℕ) → value_at room' place ≡ value_at room place
  pub others : (place : ℕ) → (pair_at pairs place).to ≢ taker
      → (pair_at pairs' place).amount ≡ (pair_at pairs place).amount
  pub has_more : pos 0 <ℤ value_at more' giver
