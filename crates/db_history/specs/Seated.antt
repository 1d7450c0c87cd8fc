-- The tokens by their objects, as they are kept with the marks of the decisions.
use Rattle.std.specs.Prelude.{◌≡◌, ℕ, ◌<◌, ◌≤◌, List, length, take, Some, slice_get}
use Rattle.db_store.specs.declared.store.Mark.{Mark}
use Rattle.db_store.specs.Stores.{Stored}
use Rattle.db_fixpoint.specs.declared.seating.Seating.{Seating}
use Rattle.db_fixpoint.specs.Seating.{AreSeatsUpTo, IsSeatingOf}

-- the seating is one of the store, and each mark has a step, up to which all tokens were noted that there were at the mark
pub record AreSeatedAt (stored : Stored) (marks : List Mark) (seating : Seating) : Type 0 where
  pub is : IsSeatingOf stored seating
  pub count : length seating.steps.items ≡ length marks
  pub marked : (number count : ℕ) (mark : Mark)
      → slice_get marks number ≡ Some mark → slice_get seating.steps.items number ≡ Some count
      → AreSeatsUpTo stored (Some mark) (take count seating.seats)
  pub order : (one other less more : ℕ) → one < other
      → slice_get seating.steps.items one ≡ Some less → slice_get seating.steps.items other ≡ Some more → less ≤ more
  pub within : (number count : ℕ) → slice_get seating.steps.items number ≡ Some count → count ≤ length seating.seats
