-- How the cells and their trail are kept.
use Rattle.std.specs.Prelude.{◌≡◌, ℕ, ◌+◌, ◌-◌, ◌<◌, ◌==◌, Bool, if◌then◌else◌, List, [], ◌∷◌, length}
use Rattle.std.specs.Prelude.{map, take, slice_set, slice_get, Some}
use Rattle.domain_core.specs.Domain.{Domain, slack}
use Rattle.cell_store.specs.Cells.{Celled, domain_at}
use Rattle.cell_store.specs.declared.trail.Cell.{Cell}
use Rattle.cell_store.specs.declared.trail.Entry.{Entry}
use Rattle.cell_store.specs.declared.trail.Entry.TheVariants.{Added, Narrowed}

-- the domains before the entry was made
abbrev pub domains_before : Entry → List Domain → List Domain
domains_before Added domains = take (length domains - 1) domains
domains_before (Narrowed cell former saved) domains = slice_set domains cell former

-- the lists of domains from these back along the trail, whose last entry comes first
abbrev pub past_of : List Domain → List Entry → List (List Domain)
past_of domains [] = domains ∷ []
past_of domains (entry ∷ older) = domains ∷ past_of (domains_before entry domains) older

-- how many cells there were before the entry was made
abbrev pub count_before : Entry → ℕ → ℕ
count_before Added count = count - 1
count_before (Narrowed cell former saved) count = count

-- the entry, made when there were so many cells, is about this one
abbrev pub is_about : ℕ → Entry → ℕ → Bool
is_about count Added cell = cell + 1 == count
is_about count (Narrowed other former saved) cell = cell == other

-- how long the trail is behind the last entry about the cell
abbrev pub saved_at : ℕ → List Entry → ℕ → ℕ
saved_at count [] cell = 0
saved_at count (entry ∷ older) cell =
    if is_about count entry cell then length older + 1 else saved_at (count_before entry count) older cell

-- the entry can have led to these domains: it added the last cell, or took something from a cell
abbrev pub CanBeEntry : Entry → List Domain → List Entry → Type 0
CanBeEntry Added domains older = 0 < length domains
CanBeEntry (Narrowed cell former saved) domains older =
    (cell < length domains) × ((slack (domain_at domains cell) < slack former) × (saved ≡ saved_at (length domains) older cell))

-- each entry can have led to its domains, and before all there was no cell
abbrev pub IsTrail : List Domain → List Entry → Type 0
IsTrail domains [] = domains ≡ []
IsTrail domains (entry ∷ older) = CanBeEntry entry domains older × IsTrail (domains_before entry domains) older

abbrev pub cell_domains : List Cell → List Domain
cell_domains cells = map (λ cell. cell.domain) cells

-- what the cells and their trail show
abbrev pub view_of : List Cell → List Entry → Celled
view_of cells trail = record { past = past_of (cell_domains cells) trail; stamps = map (λ cell. cell.stamp) cells }

-- the trail led to the cells, and each of them knows the last entry about it
pub record IsKept (cells : List Cell) (trail : List Entry) : Type 0 where
  pub led : IsTrail (cell_domains cells) trail
  pub saved : (number : ℕ) (cell : Cell) → slice_get cells number ≡ Some cell → cell.saved ≡ saved_at (length cells) trail number
