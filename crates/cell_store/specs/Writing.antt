-- What the pieces of the cells' calls do. The public calls promise none of it.
use Rattle.std.specs.Prelude.{◌≡◌, ℕ, ◌+◌, List, [], ◌∷◌, ◌++◌, length, slice_get, slice_set, reverse, Some, Result}
use Rattle.std.specs.Prelude.{Ok, Err}
use Rattle.std.specs.declared.alloc.AllocError.{AllocError}
use Rattle.domain_core.specs.Domain.{Domain, Has}
use Rattle.domain_core.specs.Narrowing.{Keeps}
use Rattle.domain_core.specs.declared.Change.{Change}
use Rattle.domain_core.specs.declared.Change.TheVariants.{Same, Smaller, Empty}
use Rattle.cell_store.specs.Cells.{stamped, GoesBack}
use Rattle.cell_store.specs.Kept.{IsKept, view_of}
use Rattle.cell_store.specs.declared.trail.Cell.{Cell}
use Rattle.cell_store.specs.declared.trail.Entry.{Entry}
use Rattle.cell_store.specs.declared.trail.Entry.TheVariants.{Added, Narrowed}

-- how often a cell was written after a change
abbrev pub stamp_after : Change → ℕ → ℕ
stamp_after Same stamp = stamp
stamp_after Smaller stamp = stamped stamp
stamp_after Empty stamp = stamp

-- the cell keeps what the other domain has too
pub record MeetsCell (to : Domain) (old : Cell) (change : Change) (new : Cell) : Type 0 where
  pub kept : Keeps (Has to) old.domain change new.domain
  pub stamp : new.stamp ≡ stamp_after change old.stamp
  pub saved : new.saved ≡ old.saved

-- where it was written it knows this place of the trail
abbrev pub saved_after : ℕ → Change → ℕ → ℕ
saved_after behind Same saved = saved
saved_after behind Smaller saved = behind
saved_after behind Empty saved = saved

-- the cell keeps what the other domain has too, and knows the place where it was written
pub record MeetsBehind (behind : ℕ) (to : Domain) (old : Cell) (change : Change) (new : Cell) : Type 0 where
  pub kept : Keeps (Has to) old.domain change new.domain
  pub stamp : new.stamp ≡ stamp_after change old.stamp
  pub saved : new.saved ≡ saved_after behind change old.saved

-- the cell of this number keeps what the other domain has too, and the others stay
pub record MeetsAt (cell : ℕ) (to : Domain) (old : List Cell) (change : Change) (new : List Cell) : Type 0 where
  pub was : Cell
  pub left : Cell
  pub stood : slice_get old cell ≡ Some was
  pub meets : MeetsCell to was change left
  pub others : new ≡ slice_set old cell left

-- the cell is written, and the trail tells what it was
pub record SavesCell (cell : ℕ) (to : Domain) (old new : List Cell × List Entry) : Type 0 where
  pub was : Cell
  pub left : Domain
  pub stood : slice_get old.0 cell ≡ Some was
  pub kept : Keeps (Has to) was.domain Smaller left
  pub cells : new.0 ≡ slice_set old.0 cell (record { domain = left; stamp = stamped was.stamp; saved = length old.1 + 1 })
  pub trail : new.1 ≡ old.1 ++ Narrowed cell was.domain was.saved ∷ []

-- the cell stays as it is, since this is what was asked for
pub record StaysAt (cell : ℕ) (to : Domain) (change : Change) (old new : List Cell × List Entry) : Type 0 where
  pub was : Cell
  pub stood : slice_get old.0 cell ≡ Some was
  pub kept : Keeps (Has to) was.domain change was.domain
  pub cells : new.0 ≡ old.0
  pub trail : new.1 ≡ old.1

-- the cell of this number keeps what the other domain has too, with an entry in the trail if it was written
abbrev pub SavesAt : ℕ → Domain → List Cell × List Entry → Result Change AllocError → List Cell × List Entry → Type 0
SavesAt cell to old (Ok Same) new = StaysAt cell to Same old new
SavesAt cell to old (Ok Smaller) new = SavesCell cell to old new
SavesAt cell to old (Ok Empty) new = StaysAt cell to Empty old new
SavesAt cell to old (Err none) new = (new.0 ≡ old.0) × (new.1 ≡ old.1)

-- what was written stays on the trail, and else its last entry is taken off
abbrev pub TakesBack : Change → List Entry → List Entry → Type 0
TakesBack Same old new = (front : List Entry) (last : Entry) → old ≡ front ++ last ∷ [] → new ≡ front
TakesBack Smaller old new = new ≡ old
TakesBack Empty old new = (front : List Entry) (last : Entry) → old ≡ front ++ last ∷ [] → new ≡ front

-- the entry is taken back: the last cell goes, or a cell has its former domain, and one write more
abbrev pub UndoesEntry : Entry → List Cell → List Cell → Type 0
UndoesEntry Added old new = (last : Cell) × (old ≡ new ++ last ∷ [])
UndoesEntry (Narrowed cell former saved) old new =
    (was : Cell) × ((slice_get old cell ≡ Some was)
    × (new ≡ slice_set old cell (record { domain = former; stamp = stamped was.stamp; saved = saved })))

-- the last entry of the trail is taken back
pub record StepsBack (old new : List Cell × List Entry) : Type 0 where
  pub entry : Entry
  pub trail : old.1 ≡ new.1 ++ entry ∷ []
  pub cells : UndoesEntry entry old.0 new.0

-- the cells and their trail went back until the trail had this length
pub record ReturnsTo (behind : ℕ) (old new : List Cell × List Entry) : Type 0 where
  pub kept : IsKept new.0 (reverse new.1)
  pub goes : GoesBack behind (view_of old.0 (reverse old.1)) (view_of new.0 (reverse new.1))
