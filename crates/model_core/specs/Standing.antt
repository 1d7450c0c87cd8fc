-- Where in a rule its slots, locals and items stand, and from where they may be named.
use Rattle.std.specs.Prelude.{◌≡◌, ℕ, ⊤, List, ◌++◌, Some, slice_get, All}
use Rattle.model_core.specs.declared.item.Item.{Item}
use Rattle.model_core.specs.declared.item.Item.TheVariants.{Constraint, Relation}
use Rattle.model_core.specs.declared.item.Term.{Term}
use Rattle.model_core.specs.declared.item.Term.TheVariants as terms
use Rattle.model_core.specs.declared.rule.Turn.{Turn}
use Rattle.model_core.specs.Blocks.{Direct, OfSlot, OfLocal, Follows, direct}
use Rattle.model_core.specs.Entries.{Entries}

-- the way leads from the top block to this one, whatever the guards on it are
abbrev pub LeadsToBlock : Entries → List Turn → Entries → Type 0
LeadsToBlock top path block = Follows (λ guard side. ⊤) top path block

-- this stands at the place of the block to which the way leads
pub record StandsAt (top : Entries) (path : List Turn) (place : ℕ) (what : Direct) : Type 0 where
  pub block : Entries
  pub way : LeadsToBlock top path block
  pub stands : slice_get (direct block) place ≡ Some what

-- this stands at one place of one block, and nowhere else
pub record StandsOnce (top : Entries) (what : Direct) : Type 0 where
  pub path : List Turn
  pub place : ℕ
  pub stands : StandsAt top path place what
  pub only : (other : List Turn) (number : ℕ) → StandsAt top other number what → (other ≡ path) × (number ≡ place)

-- this stands in the block to which the way leads, or in one round it
pub record IsSeen (top : Entries) (path : List Turn) (what : Direct) : Type 0 where
  pub outer : List Turn
  pub inner : List Turn
  pub within : path ≡ outer ++ inner
  pub place : ℕ
  pub stands : StandsAt top outer place what

-- the term names no slot or local but those that are seen from the block
abbrev pub IsTermSeen : Entries → List Turn → Term → Type 0
IsTermSeen top path (terms.Slot number part) = IsSeen top path (OfSlot number)
IsTermSeen top path (terms.Local number) = IsSeen top path (OfLocal number)
IsTermSeen top path term = ⊤

-- and neither does the item
abbrev pub IsItemSeen : Entries → List Turn → Item → Type 0
IsItemSeen top path (Constraint kind arguments) = All (IsTermSeen top path) arguments
IsItemSeen top path (Relation relation slot) = IsSeen top path (OfSlot slot)
