-- Tokens that are noted under the objects that they are on.
use Rattle.std.specs.Prelude.{◌≡◌, ℕ, pos, List, ◌++◌, Option, Some, None, MatchOption, slice_get, Contains}
use Rattle.domain_core.specs.Domain.{Domain, IsSingle}
use Rattle.eu_name.specs.declared.name.Part.TheVariants.{Object}
use Rattle.db_store.specs.declared.key.VarKey.{VarKey}
use Rattle.db_store.specs.declared.key.VarKey.TheVariants.{Part}
use Rattle.db_store.specs.declared.store.Mark.{Mark}
use Rattle.db_store.specs.declared.watchers.Watch.{Watch}
use Rattle.db_store.specs.Stores.{Stored, Snapshot}
use Rattle.db_store.specs.StoreMarks.{IsStoreMark, AreTouched}
use Rattle.db_fixpoint.specs.declared.seating.Seating.{Seating}

-- the place is noted under the object of this number
abbrev pub IsSeated : List Watch → ℕ → ℕ → Type 0
IsSeated seats object place = Contains seats (record { variable = object; block = place })

-- if the variable of this number is the object of a token, which can be on one only, the token is noted under that one
abbrev pub SeatsNumber : List VarKey → List Domain → List Watch → ℕ → Type 0
SeatsNumber keys domains seats number =
    (place object : ℕ) (domain : Domain)
    → slice_get keys number ≡ Some (Part place Object) → slice_get domains number ≡ Some domain
    → IsSingle domain (pos object) → IsSeated seats object place

-- so it is with all variables
abbrev pub SeatsAll : List VarKey → List Domain → List Watch → Type 0
SeatsAll keys domains seats = (number : ℕ) → SeatsNumber keys domains seats number

-- so it was with all that there were at the mark, if there is one
abbrev pub AreSeatsUpTo : Stored → Option Mark → List Watch → Type 0
AreSeatsUpTo stored mark seats = MatchOption mark (Unit {0})
    (λ mark. (there : Snapshot) × IsStoreMark stored mark there × SeatsAll there.keys there.domains seats)

-- the seating is one of this store
abbrev pub IsSeatingOf : Stored → Seating → Type 0
IsSeatingOf stored seating = AreSeatsUpTo stored seating.mark seating.seats

-- the seating is one of the store, and has all that the old one had
pub record KeepsSeating (old : Seating) (stored : Stored) (new : Seating) : Type 0 where
  pub grown : (more : List Watch) × (new.seats ≡ old.seats ++ more)
  pub steps : new.steps.items ≡ old.steps.items
  pub is : IsSeatingOf stored new

-- what the seats lack that were those of all variables at the mark is noted
abbrev pub SeatsSince : Stored → Option Mark → List Watch → Type 0
SeatsSince stored None seats = SeatsAll stored.keys stored.net.domains seats
SeatsSince stored (Some mark) seats =
    (numbers : List ℕ) × ((there : Snapshot) → IsStoreMark stored mark there → AreTouched numbers there stored)
    × ((number : ℕ) → Contains numbers number → SeatsNumber stored.keys stored.net.domains seats number)
