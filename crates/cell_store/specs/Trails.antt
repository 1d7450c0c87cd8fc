-- How the trail is kept.
use Rattle.std.specs.Prelude.{◌≡◌, ◌≢◌, ℕ, zero, suc, ◌+◌, ◌≤◌, ◌==◌, if◌then◌else◌, List, [], ◌∷◌, ◌++◌, Option, Some, None}
use Rattle.cell_store.specs.declared.trail.Entry.{Entry}
use Rattle.cell_store.specs.declared.trail.Entry.TheVariants.{Added, Narrowed}
use Rattle.cell_store.specs.declared.steps.Former.{Former}

-- what the step did that wrote the cell of this former
abbrev pub narrowed : Former → Entry
narrowed former = Narrowed former.cell former.domain former.saved

-- what a step did: it wrote the cell of its former, and where it has none it added a cell
abbrev pub entry_at : List Former → ℕ → Entry
entry_at [] step = Added
entry_at (former ∷ formers) step = if former.step == step then narrowed former else entry_at formers step

-- the entries of so many steps, the oldest one first
abbrev pub entries_of : ℕ → List Former → List Entry
entries_of zero formers = []
entries_of (suc step) formers = entries_of step formers ++ entry_at formers step ∷ []

-- the formers stand in the order of their steps, which are numbers from the one to the other
abbrev pub AreSteps : ℕ → ℕ → List Former → Type 0
AreSteps from count [] = from ≤ count
AreSteps from count (former ∷ formers) = (from ≤ former.step) × AreSteps (former.step + 1) count formers

-- the cell that the entry is about, if that wasn't added by it
abbrev pub written_by : Entry → Option ℕ
written_by Added = None
written_by (Narrowed cell former saved) = Some cell

abbrev pub IsWritten : Entry → Option ℕ → Type 0
IsWritten entry written = written ≡ written_by entry

-- the last of the formers is that of this step
abbrev pub EndsWith : ℕ → List Former → Type 0
EndsWith step formers = (front : List Former) × (last : Former) × ((formers ≡ front ++ last ∷ []) × (last.step ≡ step))

-- it isn't, or there is none
abbrev pub EndsOtherwise : ℕ → List Former → Type 0
EndsOtherwise step formers = (front : List Former) (last : Former) → formers ≡ front ++ last ∷ [] → last.step ≢ step

-- the last step is taken off, which did this
pub record TakesEntry (step : ℕ) (old : List Former) (entry : Entry) (new : List Former) : Type 0 where
  pub entries : entries_of (step + 1) old ≡ entries_of step new ++ entry ∷ []
  pub steps : AreSteps 0 step new
