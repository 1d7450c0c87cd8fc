-- Branches among the entries of a block, and the last guard on the way to one.
use Rattle.std.proofs.Common.{◌≡◌, ℕ, zero, suc, List, [], ◌∷◌, Some, refl}
use Rattle.std.specs.Prelude.{slice_get}
use Rattle.model_core.specs.declared.model.Model.{Model}
use Rattle.model_core.specs.declared.rule.Entry.{Entry}
use Rattle.model_core.specs.declared.rule.Entry.TheVariants.{Slot, Local, Item, Branch}
use Rattle.model_core.specs.declared.rule.Guard.{Guard}
use Rattle.model_core.specs.declared.rule.Side.{Side}
use Rattle.model_core.specs.declared.rule.Turn.{Turn}
use Rattle.model_core.specs.Block.{plain_entries}
use Rattle.model_core.specs.Blocks.{Follows, direct, chosen, OfBranch}
use Rattle.model_core.specs.Entries.{Entries}
use Rattle.model_core.specs.Numbers.{turned}
use Rattle.db_store.specs.declared.key.OpenBlock.{OpenBlock}
use Rattle.db_store.specs.Stores.{Stored}
use Rattle.db_resources.specs.Completeness.{IsCertainEntry, AreCertainIn}

-- ---- entries

branch_kept : (entries : List Entry) (place : ℕ) (guard : Guard) (then otherwise : Entries)
    → slice_get (direct (plain_entries entries)) place ≡ Some (OfBranch guard then otherwise) → slice_get entries place ≡ Some (Branch guard then otherwise)
branch_kept [] place guard then otherwise at = absurd (cc)
branch_kept (Slot slot ∷ more) zero guard then otherwise at = absurd (cc)
branch_kept (Local local ∷ more) zero guard then otherwise at = absurd (cc)
branch_kept (Item item ∷ more) zero guard then otherwise at = absurd (cc)
branch_kept (Branch one first second ∷ more) zero guard then otherwise at = cc
branch_kept (Slot slot ∷ more) (suc place) guard then otherwise at = branch_kept more place guard then otherwise at
branch_kept (Local local ∷ more) (suc place) guard then otherwise at = branch_kept more place guard then otherwise at
branch_kept (Item item ∷ more) (suc place) guard then otherwise at = branch_kept more place guard then otherwise at
branch_kept (Branch one first second ∷ more) (suc place) guard then otherwise at = branch_kept more place guard then otherwise at

branch_plain : (entries : List Entry) (place : ℕ) (guard : Guard) (then otherwise : Entries)
    → slice_get entries place ≡ Some (Branch guard then otherwise) → slice_get (direct (plain_entries entries)) place ≡ Some (OfBranch guard then otherwise)
branch_plain [] place guard then otherwise at = absurd (cc)
branch_plain (Slot slot ∷ more) zero guard then otherwise at = absurd (cc)
branch_plain (Local local ∷ more) zero guard then otherwise at = absurd (cc)
branch_plain (Item item ∷ more) zero guard then otherwise at = absurd (cc)
branch_plain (Branch one first second ∷ more) zero guard then otherwise at = cc
branch_plain (Slot slot ∷ more) (suc place) guard then otherwise at = branch_plain more place guard then otherwise at
branch_plain (Local local ∷ more) (suc place) guard then otherwise at = branch_plain more place guard then otherwise at
branch_plain (Item item ∷ more) (suc place) guard then otherwise at = branch_plain more place guard then otherwise at
branch_plain (Branch one first second ∷ more) (suc place) guard then otherwise at = branch_plain more place guard then otherwise at

module _ (model : Model) (stored : Stored) (block : OpenBlock) (entries : List Entry) where
  -- all entries are such, and so are the branches among them
  pub entries_certain : ((place : ℕ) (entry : Entry) → slice_get entries place ≡ Some entry → IsCertainEntry model stored block place entry)
      → AreCertainIn model stored block (plain_entries entries)
  entries_certain all place guard then otherwise at = all place (Branch guard then otherwise) (branch_kept entries place guard then otherwise at)

  -- and back
  pub certain_entry : AreCertainIn model stored block (plain_entries entries) → (place : ℕ) (entry : Entry) → slice_get entries place ≡ Some entry
      → IsCertainEntry model stored block place entry
  certain_entry all place (Slot slot) at = tt
  certain_entry all place (Local local) at = tt
  certain_entry all place (Item item) at = tt
  certain_entry all place (Branch guard then otherwise) at = all place guard then otherwise (branch_plain entries place guard then otherwise at)

-- ---- the last turn

-- the way, the branch at which it turned last, and that its guard allows this
pub record LastTurn (Allows : Guard → Side → Type 0) (top : Entries) (path : List Turn) (place : ℕ) (side : Side) : Type 0 where
  pub middle : Entries
  pub way : Follows Allows top path middle
  pub guard : Guard
  pub then : Entries
  pub otherwise : Entries
  pub at : slice_get (direct middle) place ≡ Some (OfBranch guard then otherwise)
  pub allows : Allows guard side

pub last_turn : (Allows : Guard → Side → Type 0) (top : Entries) (path : List Turn) (place : ℕ) (side : Side) (block : Entries)
    → Follows Allows top (turned path place side) block → LastTurn Allows top path place side
last_turn Allows top [] place side block way =
    record { middle = top; way = refl; guard = way.0; then = way.1.0; otherwise = way.1.1; at = way.1.2.0; allows = way.1.2.1.0 }
last_turn Allows top (turn ∷ path) place side block way =
    let rest = last_turn Allows (chosen turn.side way.1.0 way.1.1) path place side block way.1.2.1.1 in
    record {
      middle = rest.middle;
      way = (way.0, (way.1.0, way.1.1, (way.1.2.0, (way.1.2.1.0, rest.way))));
      guard = rest.guard;
      then = rest.then;
      otherwise = rest.otherwise;
      at = rest.at;
      allows = rest.allows;
    }
