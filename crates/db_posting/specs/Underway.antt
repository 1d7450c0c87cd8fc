-- Where a store stands on the way to the least state of decisions.
use Rattle.std.specs.Prelude.{◌≡◌, ℕ, ◌<◌, ◌≤◌, ⊤, List, [], ◌++◌, length, Some, slice_get, Contains, Result, Ok}
use Rattle.std.specs.Prelude.{Err}
use Rattle.eu_name.specs.declared.name.VarName.{VarName}
use Rattle.model_core.specs.declared.decision.Decision.{Decision}
use Rattle.model_core.specs.declared.model.Model.{Model}
use Rattle.model_core.specs.declared.rule.Guard.{Guard}
use Rattle.model_core.specs.Blocks.{TokenBlock, IsBlock, direct, OfBranch}
use Rattle.model_core.specs.Entries.{Entries}
use Rattle.token_store.specs.Tokens.{tokens_now}
use Rattle.narrow_core.specs.declared.field.Field.{Field}
use Rattle.constraint_net.specs.Networks.{AllConsistent}
use Rattle.constraint_net.specs.declared.NetFault.{NetFault}
use Rattle.constraint_net.specs.declared.NetFault.TheVariants.{Collapsed, Memory}
use Rattle.plan_defs.specs.Terms.{InRule}
use Rattle.model_core.specs.Content.{Content}
use Rattle.db_refine.specs.Growth.{LeaveNothing}
use Rattle.db_refine.specs.Progress.{IsJustified, MissesNothing, GuardNames}
use Rattle.db_store.specs.Stores.{Stored, Snapshot, snapshot_of, named_content}
use Rattle.db_store.specs.declared.watchers.Watch.{Watch}
use Rattle.db_posting.specs.Counting.{AreTokenStates}
use Rattle.db_posting.specs.Wanted.{ArePreds}

-- the variable of this name is watched by the block of this number
abbrev pub IsWatched : Content → List Watch → ℕ → VarName → Type 0
IsWatched content watches block name =
    (variable : ℕ) × (slice_get content.names variable ≡ Some name)
    × Contains watches (record { variable = variable; block = block })

-- each variable that a guard in one of the first so many blocks names is watched by that block
abbrev pub AreWatched : Model → Content → List Watch → ℕ → Type 0
AreWatched model content watches unfolded =
    (number : ℕ) (block : TokenBlock) (entries : Entries) (guard : Guard) (then otherwise : Entries) (name : VarName)
    → number < unfolded → slice_get content.blocks number ≡ Some block → IsBlock model block entries
    → Contains (direct entries) (OfBranch guard then otherwise) → GuardNames (InRule block.token block.rule) guard name
    → IsWatched content watches number name

-- all that is so while a snapshot, with these tables, is on its way to the least state of the decisions: what the first of
-- them ask for is followed, the first so many blocks are unfolded, and these variables are due
pub record IsUnderway (model : Model) (followed decisions : List Decision) (tables : List Field) (snapshot : Snapshot)
    (unfolded : ℕ) (due : List ℕ) : Type 0 where
  pub justified : IsJustified model decisions tables snapshot.posted (named_content snapshot)
  pub complete : MissesNothing model followed snapshot.posted (named_content snapshot) unfolded due
  pub states : AreTokenStates model decisions snapshot
  pub preds : ArePreds model snapshot.tokens
  pub watched : AreWatched model (named_content snapshot) snapshot.watches unfolded
  pub within : unfolded ≤ length snapshot.blocks

-- it has come to rest: all blocks are unfolded, nothing is due, and all constraints are consistent
pub record IsAtRest (model : Model) (decisions : List Decision) (tables : List Field) (snapshot : Snapshot) : Type 0 where
  pub underway : IsUnderway model decisions decisions tables snapshot (length snapshot.blocks) []
  pub consistent : AllConsistent tables snapshot.posted snapshot.domains

-- the same of a store
abbrev pub IsStoreUnderway : Model → List Decision → List Decision → Stored → ℕ → List ℕ → Type 0
IsStoreUnderway model followed decisions stored unfolded due =
    IsUnderway model followed decisions stored.net.tables (snapshot_of stored) unfolded due

-- what a call answers and leaves that goes on where the store is underway and what it asks for is so of the decisions
abbrev pub StaysUnderway : Model → (List Decision → Type 0) → Stored → Result (Unit {0}) NetFault → Stored → Type 0
StaysUnderway model Asked old (Ok done) new =
    (followed decisions : List Decision) (unfolded : ℕ) (due : List ℕ)
    → IsStoreUnderway model followed decisions old unfolded due → Asked decisions
    → IsStoreUnderway model followed decisions new unfolded due
StaysUnderway model Asked old (Err Collapsed) new =
    (followed decisions : List Decision) (unfolded : ℕ) (due : List ℕ)
    → IsStoreUnderway model followed decisions old unfolded due → Asked decisions → LeaveNothing model decisions
StaysUnderway model Asked old (Err Memory) new = ⊤

-- the one list goes on as the other
abbrev pub GoesOnAs : {X : Type 0} → List X → List X → Type 0
GoesOnAs {X} old new = (more : List X) × (new ≡ old ++ more)

-- nothing of the store has gone or changed, and no variable is due that wasn't
pub record OnlyAdds (old new : Stored) : Type 0 where
  pub tokens : GoesOnAs (tokens_now old.past) (tokens_now new.past)
  pub keys : GoesOnAs old.keys new.keys
  pub blocks : GoesOnAs old.blocks new.blocks
  pub watches : GoesOnAs old.watches new.watches
  pub domains : GoesOnAs old.net.domains new.net.domains
  pub posted : GoesOnAs old.net.constraints new.net.constraints
  pub tables : new.net.tables ≡ old.net.tables
  pub changed : new.net.changed ≡ old.net.changed
