-- Cells with their domains, and what can be gone back to.
use Rattle.std.specs.Prelude.{◌≡◌, ◌≢◌, ℕ, ◌+◌, ◌-◌, ◌^◌, ◌<◌, ◌≤◌, min, List, [], ◌∷◌, ◌++◌}
use Rattle.std.specs.Prelude.{◌⊎◌, length, slice_index_or, slice_set, Result, Ok, Err, Option, Some, None, IfSome, pos}
use Rattle.std.specs.declared.alloc.AllocError.{AllocError}
use Rattle.domain_core.specs.Domain.{Domain, Range, Has}
use Rattle.domain_core.specs.Narrowing.{Keeps}
use Rattle.domain_core.specs.declared.Change.{Change}
use Rattle.domain_core.specs.declared.Change.TheVariants.{Same, Smaller, Empty}

-- the lists of domains that can be gone back to, the present one first, and how often each cell was written
pub record Celled : Type 0 where
  pub past : List (List Domain)
  pub stamps : List ℕ

-- the first of the lists
abbrev pub newest_of : List (List Domain) → List Domain
newest_of [] = []
newest_of (domains ∷ past) = domains

-- the domains of the cells, by number
abbrev pub present : Celled → List Domain
present celled = newest_of celled.past

-- the domain of the cell of this number
abbrev pub domain_at : List Domain → ℕ → Domain
domain_at domains cell = slice_index_or domains cell (Range (pos 0) (pos 0))

-- at the place the domains were these
abbrev pub IsPlace : Celled → ℕ → List Domain → Type 0
IsPlace celled place domains =
    (newer older : List (List Domain)) × ((celled.past ≡ newer ++ domains ∷ older) × (length older ≡ place))

-- one cell was written, or a cell was added behind the others
abbrev pub StepsFrom : List Domain → Option ℕ → List Domain → Type 0
StepsFrom before (Some cell) after = (left : Domain) × ((cell < length before) × (after ≡ slice_set before cell left))
StepsFrom before None after = (added : Domain) × (after ≡ before ++ added ∷ [])

-- the step from this place to the next one wrote this cell alone, which is there still, or added one
pub record IsStep (step : ℕ) (celled : Celled) (written : Option ℕ) : Type 0 where
  pub there : IfSome written (λ cell. cell < length (present celled))
  pub led : (before after : List Domain)
      → IsPlace celled step before → IsPlace celled (step + 1) after → StepsFrom before written after

-- one more write, where a counter stays at its type's end
abbrev pub stamped : ℕ → ℕ
stamped stamp = min (stamp + 1) (2 ^ 64 - 1)

-- a cell of this domain stands behind the others, and was never written; without memory nothing changes
abbrev pub AddsCell : Domain → Celled → Result ℕ AllocError → Celled → Type 0
AddsCell domain old (Ok number) new =
    (number ≡ length (present old))
    × ((new.past ≡ (present old ++ domain ∷ []) ∷ old.past) × (new.stamps ≡ old.stamps ++ 0 ∷ []))
AddsCell domain old (Err none) new = new ≡ old

-- up to this place what can be gone back to is the same
abbrev pub KeepsPast : ℕ → List (List Domain) → List (List Domain) → Type 0
KeepsPast place old new =
    (newer newest kept : List (List Domain)) × ((old ≡ newer ++ kept) × ((new ≡ newest ++ kept) × (length kept ≡ place + 1)))

-- the cell was written: it has less than before, of which the test takes nothing, and the others are as they were
pub record WritesCell (cell : ℕ) (to : Domain) (since : ℕ) (old new : Celled) : Type 0 where
  pub left : Domain
  pub kept : Keeps (Has to) (domain_at (present old) cell) Smaller left
  pub domains : present new ≡ slice_set (present old) cell left
  pub stamps : new.stamps ≡ slice_set old.stamps cell (stamped (slice_index_or old.stamps cell 0))
  pub past : KeepsPast since old.past new.past

-- the cell keeps what the other domain has too; where nothing has to go, where nothing is left, and without memory,
-- nothing changes
abbrev pub NarrowsCell : ℕ → Domain → ℕ → Celled → Result Change AllocError → Celled → Type 0
NarrowsCell cell to since old (Ok Same) new =
    (new ≡ old) × Keeps (Has to) (domain_at (present old) cell) Same (domain_at (present old) cell)
NarrowsCell cell to since old (Ok Smaller) new = WritesCell cell to since old new
NarrowsCell cell to since old (Ok Empty) new =
    (new ≡ old) × Keeps (Has to) (domain_at (present old) cell) Empty (domain_at (present old) cell)
NarrowsCell cell to since old (Err none) new = new ≡ old

-- a stamp is greater, or the greatest, where the domain is another one, and stays where the domain does
abbrev pub FollowsDomain : Domain → ℕ → Domain → ℕ → Type 0
FollowsDomain old stamp new next = ((new ≡ old) × (next ≡ stamp)) ⊎ ((new ≢ old) × ((stamp < next) ⊎ (next ≡ 2 ^ 64 - 1)))

-- the cells and domains at the place are back, and what could be gone back to before it; no cell comes, and exactly the
-- cells are written whose domain wasn't that one
pub record GoesBack (place : ℕ) (old new : Celled) : Type 0 where
  pub newer : List (List Domain)
  pub past : old.past ≡ newer ++ new.past
  pub count : length new.past ≡ place + 1
  pub fewer : length (present new) ≤ length (present old)
  pub stamps : length new.stamps ≡ length (present new)
  pub follow : (cell : ℕ) → cell < length (present new)
      → FollowsDomain (domain_at (present old) cell) (slice_index_or old.stamps cell 0)
      (domain_at (present new) cell) (slice_index_or new.stamps cell 0)
