-- How a count of failed calls tells that a call failed.
use Rattle.std.specs.Prelude.{◌≡◌, ℕ, ◌+◌, ◌-◌, ◌^◌, min, Bool, true, false, ⊤, if◌then◌else◌, Option, is_some, Result, is_err}

-- a count of one more, where a counter stays at its type's end
abbrev pub raised : ℕ → ℕ
raised count = min (count + 1) (2 ^ 64 - 1)

-- the count of failed calls where one more has failed, or none
abbrev pub counted : Bool → ℕ → ℕ
counted failed count = if failed then raised count else count

-- how many calls have failed, and whether the last one did
pub record FaultState : Type 0 where
  pub count : ℕ
  pub last : Bool

-- no call has failed
abbrev pub no_faults : FaultState
no_faults = record { count = 0; last = false }

-- the same after one more call, which failed or not
abbrev pub after : Bool → FaultState → FaultState
after failed faults = record { count = counted failed faults.count; last = failed }

-- the count is one more where the call failed, and otherwise is what it was
abbrev pub CountsFailures : {T E : Type 0} → Result T E → ℕ → ℕ → Type 0
CountsFailures answer old new = new ≡ counted (is_err answer) old

-- where a call failed it was the last one
abbrev pub NoneAfter : Bool → Bool → Type 0
NoneAfter true last = last ≡ true
NoneAfter false last = ⊤

-- whether the content is told stays as it was
abbrev pub StaysTold : {X : Type 0} → Option X → Option X → Type 0
StaysTold old new = is_some new ≡ is_some old
