-- What shows that no schedule has a greater sum at the instant.
use Rattle.std.specs.Prelude.{◌≡◌, ℕ, ◌<◌, ℤ, pos, neg_ℤ, ◌+ℤ◌, ◌-ℤ◌, ◌≤ℤ◌, ◌<ℤ◌}
use Rattle.std.specs.Prelude.{◌⊎◌, List, length, All}
use Rattle.temporal_core.specs.declared.edges.Edge.{Edge}
use Rattle.temporal_core.specs.Schedule.{IsSchedule}
use Rattle.flow_envelope.specs.declared.change.PointChange.{PointChange}
use Rattle.flow_envelope.specs.declared.change.Amount.{Amount}
use Rattle.flow_envelope.specs.Sums.{change_at, sum_below, sum_by, sum_from, sum_to}
use Rattle.flow_envelope.specs.Times.{IsBy, MayBeBy, IsAfter, MayBeAfter, Precedes}

-- the amount goes from a change that adds to one that takes, and in no schedule is that one's point the later one
pub record IsAmount (edges : List Edge) (changes : List PointChange) (amount : Amount) : Type 0 where
  pub some : pos 0 <ℤ amount.amount
  pub from : amount.from < length changes
  pub to : amount.to < length changes
  pub adds : pos 0 <ℤ (change_at changes amount.from).add
  pub takes : (change_at changes amount.to).add <ℤ pos 0
  pub precedes : Precedes edges (change_at changes amount.to).point (change_at changes amount.from).point

-- what is left of a change that adds, if some schedule has it by the instant; else nothing
abbrev pub IsLeftToAdd : List Edge → ℤ → PointChange → ℤ → ℤ → Type 0
IsLeftToAdd edges at change gone left =
    (MayBeBy edges at change.point × (left ≡ change.add -ℤ gone)) ⊎ (IsAfter edges at change.point × (left ≡ pos 0))

-- what is left of a change that takes, if every schedule has it by the instant; else nothing
abbrev pub IsLeftToTake : List Edge → ℤ → PointChange → ℤ → ℤ → Type 0
IsLeftToTake edges at change come left =
    (IsBy edges at change.point × (left ≡ change.add +ℤ come))
    ⊎ (MayBeAfter edges at change.point × (left ≡ pos 0))

-- what the change counts for, where so much has gone from it and so much has come to it
pub record IsLeft (edges : List Edge) (at : ℤ) (change : PointChange) (gone come left : ℤ) : Type 0 where
  pub adds : pos 0 <ℤ change.add → IsLeftToAdd edges at change gone left
  pub takes : change.add <ℤ pos 0 → IsLeftToTake edges at change come left
  pub neither : change.add ≡ pos 0 → left ≡ pos 0

-- the amounts show that no schedule has more than the sum at the instant: no more goes from a change than it adds, or
-- to one than it takes, and the sum is that of what is left
pub record IsCut (edges : List Edge) (changes : List PointChange) (at : ℤ) (cut : List Amount) (sum : ℤ) : Type 0 where
  pub amounts : All (IsAmount edges changes) cut
  pub from : (place : ℕ) → place < length changes → pos 0 <ℤ (change_at changes place).add
      → sum_from cut place ≤ℤ (change_at changes place).add
  pub to : (place : ℕ) → place < length changes → (change_at changes place).add <ℤ pos 0
      → sum_to cut place ≤ℤ neg_ℤ (change_at changes place).add
  pub left : ℕ → ℤ
  pub each : (place : ℕ) → place < length changes
      → IsLeft edges at (change_at changes place) (sum_from cut place) (sum_to cut place) (left place)
  pub total : sum ≡ sum_below left (length changes)

-- no schedule has a greater sum than this one
abbrev pub HasNoMore : List Edge → List PointChange → ℤ → ℤ → Type 0
HasNoMore edges changes at sum = (value : ℕ → ℤ) → IsSchedule edges value → sum_by at value changes ≤ℤ sum
