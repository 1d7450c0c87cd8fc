-- Marks of a store, and going back to one.
use Rattle.std.specs.Prelude.{◌≡◌, ◌⊎◌, ℕ, ◌<◌, ◌≤◌, true, List, ◌∷◌, ◌++◌, length, take, Contains}
use Rattle.cell_store.specs.Cells.{domain_at}
use Rattle.token_store.specs.Tokens.{TokenPast}
use Rattle.constraint_net.specs.Marks.{IsMark, Returns}
use Rattle.db_store.specs.declared.store.Mark.{Mark}
use Rattle.db_store.specs.Stamps.{FollowStamps, StampsGoOn}
use Rattle.db_store.specs.Stores.{Stored, Snapshot, snapshot_of, IsSnapshot}

-- these are the first so many items of the list
abbrev pub AreFirst : {X : Type 0} → ℕ → List X → List X → Type 0
AreFirst count list first = (count ≤ length list) × (first ≡ take count list)

-- at the mark the store had this in it, and tables come only while it has no mark
pub record IsStoreMark (stored : Stored) (mark : Mark) (snapshot : Snapshot) : Type 0 where
  pub is : IsSnapshot snapshot
  pub tokens : (newer older : TokenPast) × ((stored.past ≡ newer ++ snapshot.tokens ∷ older) × (length older ≡ mark.tokens))
  pub keys : AreFirst mark.variables stored.keys snapshot.keys
  pub blocks : AreFirst mark.blocks stored.blocks snapshot.blocks
  pub watches : AreFirst mark.watches stored.watches snapshot.watches
  pub net : IsMark stored.net mark.net snapshot.domains snapshot.posted
  pub tables : snapshot.tables ≡ stored.net.tables

-- nothing was to be looked at there, so nothing is after going back
abbrev pub IsIdleMark : Mark → Type 0
IsIdleMark mark = mark.net.idle ≡ true

-- the store whose latest mark is at the present place
abbrev pub with_mark : Stored → Stored
with_mark stored = record stored { net = record stored.net { marked = length stored.net.older } }

-- the mark is one of this store, which hasn't gone back behind it
abbrev pub CanGoBack : Stored → Mark → Type 0
CanGoBack stored mark = (snapshot : Snapshot) × IsStoreMark stored mark snapshot

-- each mark stays one of the same, and whatever store the stamps go on from, they still do
pub record KeepStoreMarks (old new : Stored) : Type 0 where
  pub marks : (mark : Mark) (snapshot : Snapshot) → IsStoreMark old mark snapshot → IsStoreMark new mark snapshot
  pub stamps : (former : Stored) → StampsGoOn former old → StampsGoOn former new

-- at the one mark there was no more than at the other
pub record IsMarkBefore (earlier later : Mark) : Type 0 where
  pub tokens : earlier.tokens ≤ later.tokens
  pub variables : earlier.variables ≤ later.variables
  pub blocks : earlier.blocks ≤ later.blocks
  pub watches : earlier.watches ≤ later.watches
  pub cells : earlier.net.cells ≤ later.net.cells
  pub constraints : earlier.net.constraints ≤ later.net.constraints

-- what there was at the mark is there again, earlier marks and this one stay, stamps follow the domains, and of the network it
-- is told how it went back
pub record GoesBackTo (mark : Mark) (old new : Stored) : Type 0 where
  pub again : (there : Snapshot) → IsStoreMark old mark there → snapshot_of new ≡ there
  pub marks : (earlier : Mark) (there : Snapshot)
      → IsMarkBefore earlier mark → IsStoreMark old earlier there → IsStoreMark new earlier there
  pub stamps : FollowStamps old new
  pub net : Returns mark.net old.net new.net

-- each variable that there is was there at the mark, with the domain that it has, or is among the numbers
abbrev pub AreTouched : List ℕ → Snapshot → Stored → Type 0
AreTouched numbers there stored =
    (number : ℕ) → number < length stored.keys
    → ((number < length there.keys) × (domain_at stored.net.domains number ≡ domain_at there.domains number))
    ⊎ Contains numbers number
