-- Which constraints wait to be narrowed, which watch a variable, and which variables have changed.
use Rattle.std.specs.Prelude.{◌≡◌, ℕ, ◌<◌, ◌≤◌, min, Bool, true, false, List, [], ◌∷◌, ◌⊎◌, length, Contains, sum_by}
use Rattle.std.specs.Prelude.{slice_index_or, Result, Ok, Err, OnOk}
use Rattle.std.specs.declared.alloc.AllocError.{AllocError}
use Rattle.domain_core.specs.Domain.{Domain, slack}
use Rattle.domain_core.specs.declared.Change.{Change}
use Rattle.domain_core.specs.declared.Change.TheVariants.{Same, Smaller, Empty}
use Rattle.cell_store.specs.Cells.{Celled, present, domain_at, IsPlace}
use Rattle.constraint_net.specs.Queues.{Lengthens}
use Rattle.constraint_net.specs.declared.agenda.Agenda.{Agenda}
use Rattle.constraint_net.specs.declared.constraint.NetArg.{NetArg}
use Rattle.constraint_net.specs.declared.constraint.NetArg.TheVariants.{Var}

-- the numbers in the list of the variable
abbrev pub watchers_at : List (List ℕ) → ℕ → List ℕ
watchers_at watchers variable = slice_index_or watchers variable []

-- the constraint of this number waits to be narrowed
abbrev pub Waits : Agenda → ℕ → Type 0
Waits agenda number = Contains agenda.waiting.items number

-- of so many constraints those before the first one that waits: all of them, where none does
abbrev pub quiet_of : List ℕ → ℕ → ℕ
quiet_of [] count = count
quiet_of (number ∷ waiting) count = min number (quiet_of waiting count)

-- the constraint of this number is told when the variable changes
abbrev pub Watches : Agenda → ℕ → ℕ → Type 0
Watches agenda number variable = Contains (watchers_at agenda.watchers variable) number

-- the variable is among those that have changed
abbrev pub IsNoted : Agenda → ℕ → Type 0
IsNoted agenda variable = Contains agenda.changed.items variable

-- there is a list and a place for each of so many variables
pub record HasVariables (count : ℕ) (agenda : Agenda) : Type 0 where
  pub watchers : count ≤ length agenda.watchers
  pub changed : count ≤ agenda.changed.room

-- there may be more lists, and each has what it had
pub record KeepsLists (old new : List (List ℕ)) : Type 0 where
  pub lists : length old ≤ length new
  pub each : (variable number : ℕ) → Contains (watchers_at old variable) number → Contains (watchers_at new variable) number

-- numbers below the count stay in the lists
pub record KeepsBelow (count : ℕ) (old new : List (List ℕ)) : Type 0 where
  pub lists : length new ≡ length old
  pub below : (variable number : ℕ) → number < count
      → Contains (watchers_at old variable) number → Contains (watchers_at new variable) number

-- so it is in one list
abbrev pub Shortens : ℕ → List ℕ → List ℕ → Type 0
Shortens count old new = (number : ℕ) → number < count → Contains old number → Contains new number

-- what was there is there, and there may be room for more
pub record Grows (old new : Agenda) : Type 0 where
  pub room : old.waiting.room ≤ new.waiting.room
  pub lists : length old.watchers ≤ length new.watchers
  pub places : old.changed.room ≤ new.changed.room
  pub waiting : (number : ℕ) → Waits old number → Waits new number
  pub watching : (variable number : ℕ) → Watches old number variable → Watches new number variable
  pub changed : new.changed.items ≡ old.changed.items

-- nothing is lost in the lists, and the number stands in that of each variable among the arguments unless memory has
-- run out
pub record Joins (number : ℕ) (args : List NetArg) (old : List (List ℕ))
    (result : Result (Unit {0}) AllocError) (new : List (List ℕ)) : Type 0 where
  pub lists : length new ≡ length old
  pub others : (variable other : ℕ) → Contains (watchers_at old variable) other → Contains (watchers_at new variable) other
  pub joined : OnOk result ((variable : ℕ) → Contains args (Var variable) → Contains (watchers_at new variable) number)

-- no number but this one comes to wait
abbrev pub WaitsAlone : ℕ → Agenda → Agenda → Type 0
WaitsAlone number old new = (other : ℕ) → Waits new other → Waits old other ⊎ (other ≡ number)

-- the constraint waits, and watches each variable among its arguments, unless memory has run out
pub record Enrols (number : ℕ) (args : List NetArg) (old : Agenda)
    (result : Result (Unit {0}) AllocError) (new : Agenda) : Type 0 where
  pub grows : Grows old new
  pub room : OnOk result (number < new.waiting.room)
  pub waits : OnOk result (Waits new number)
  pub watches : OnOk result ((variable : ℕ) → Contains args (Var variable) → Watches new number variable)

-- lists and room stay, and nothing stops waiting or being noted
pub record Stays (old new : Agenda) : Type 0 where
  pub watchers : new.watchers ≡ old.watchers
  pub waiting : Lengthens old.waiting new.waiting
  pub changed : Lengthens old.changed new.changed

-- all that watch the variable wait, and it is noted
pub record IsAlerted (variable : ℕ) (old new : Agenda) : Type 0 where
  pub woken : (number : ℕ) → Watches old number variable → number < old.waiting.room → Waits new number
  pub noted : variable < old.changed.room → IsNoted new variable

-- a variable is told to all that watch it
pub record Wakes (variable : ℕ) (old new : Agenda) : Type 0 where
  pub stays : Stays old new
  pub alerted : IsAlerted variable old new

-- so it is where it has changed
abbrev pub AlertsAfter : Change → ℕ → Agenda → Agenda → Type 0
AlertsAfter Same variable old new = new ≡ old
AlertsAfter Smaller variable old new = Wakes variable old new
AlertsAfter Empty variable old new = new ≡ old

-- and nothing changes without memory
abbrev pub LimitAlerts : ℕ → Result Change AllocError → Agenda → Agenda → Type 0
LimitAlerts variable (Ok change) old new = AlertsAfter change variable old new
LimitAlerts variable (Err none) old new = new ≡ old

-- each variable that there is now and that has changed was told to all that watch it
pub record Alerts (old new : List Domain) (before after : Agenda) : Type 0 where
  pub stays : Stays before after
  pub each : (variable : ℕ) → variable < length new
      → (domain_at new variable ≡ domain_at old variable) ⊎ IsAlerted variable before after

-- values have gone, or nothing has changed and nobody was told
abbrev pub TellsOfLoss : List Domain → List Domain → Agenda → Agenda → Type 0
TellsOfLoss old new before after = (sum_by slack new < sum_by slack old) ⊎ ((new ≡ old) × (after ≡ before))

-- so it is with what has changed since the place, at which there were no more variables
pub record AlertsBack (place : ℕ) (cells : Celled) (before after : Agenda) (there : List Domain) : Type 0 where
  pub fewer : length there ≤ length (present cells)
  pub alerts : Alerts (present cells) there before after

abbrev pub AlertsSince : ℕ → Celled → Agenda → Agenda → Type 0
AlertsSince place cells before after =
    (there : List Domain) → IsPlace cells place there → AlertsBack place cells before after there

-- nothing waits, and nothing is noted as changed; lists and room stay
pub record Rests (old new : Agenda) : Type 0 where
  pub waiting : new.waiting.items ≡ []
  pub changed : new.changed.items ≡ []
  pub room : new.waiting.room ≡ old.waiting.room
  pub places : new.changed.room ≡ old.changed.room
  pub watchers : new.watchers ≡ old.watchers

-- going back to a place at which nothing waited leaves nothing to do; else what has changed since is told
abbrev pub TurnsBack : Bool → ℕ → Celled → Agenda → Agenda → Type 0
TurnsBack true place cells before after = Rests before after
TurnsBack false place cells before after = AlertsSince place cells before after

-- what has changed between two places was told
pub record IsStepped (there now : List Domain) (before after : Agenda) : Type 0 where
  pub fewer : length there ≤ length now
  pub each : (variable : ℕ) → variable < length there
      → (domain_at there variable ≡ domain_at now variable) ⊎ IsAlerted variable before after

abbrev pub SteppedFrom : ℕ → ℕ → Celled → Agenda → Agenda → Type 0
SteppedFrom place later cells before after =
    (there now : List Domain) → IsPlace cells place there → IsPlace cells later now → IsStepped there now before after

-- constraints from the count on are forgotten
pub record Forgets (count : ℕ) (old new : Agenda) : Type 0 where
  pub waiting : new.waiting ≡ old.waiting
  pub changed : new.changed ≡ old.changed
  pub watchers : KeepsBelow count old.watchers new.watchers
