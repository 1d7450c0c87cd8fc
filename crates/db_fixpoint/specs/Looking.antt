-- What looking at a variable comes to.
use Rattle.std.specs.Prelude.{◌≡◌, ℕ, ◌<◌, ⊤, List, ◌∷◌, Some, slice_get, Result, Ok, Err}
use Rattle.eu_name.specs.declared.name.Part.{Part}
use Rattle.eu_name.specs.declared.name.Part.TheVariants as parts
use Rattle.model_core.specs.declared.decision.Decision.{Decision}
use Rattle.model_core.specs.declared.model.Model.{Model}
use Rattle.model_core.specs.Blocks.{TokenBlock, IsBlock}
use Rattle.model_core.specs.Entries.{Entries}
use Rattle.constraint_net.specs.declared.NetFault.{NetFault}
use Rattle.constraint_net.specs.declared.NetFault.TheVariants.{Collapsed, Memory}
use Rattle.db_refine.specs.Growth.{LeaveNothing}
use Rattle.db_refine.specs.Progress.{AreBranchesFollowed}
use Rattle.plan_defs.specs.Unordered.{AreDecidedOnce}
use Rattle.db_store.specs.Stores.{Stored, blocks_watching}
use Rattle.db_store.specs.declared.key.VarKey.TheVariants as key
use Rattle.db_posting.specs.Origins.{content_now}
use Rattle.db_posting.specs.Underway.{IsStoreUnderway}
use Rattle.db_fixpoint.specs.Turns.{TakesTurns}

-- the store is on its way to the least state of the decisions, which decide each token once: the first so many blocks are
-- unfolded, and these variables are due
pub record IsOnWay (model : Model) (decisions : List Decision) (stored : Stored) (unfolded : ℕ) (due : List ℕ) : Type 0 where
  pub once : AreDecidedOnce model decisions
  pub underway : IsStoreUnderway model decisions decisions stored unfolded due

-- so it is for some decisions
abbrev pub HasWay : Model → Stored → ℕ → Type 0
HasWay model stored unfolded = (decisions : List Decision) × (due : List ℕ) × IsOnWay model decisions stored unfolded due

-- the branches of the open block of this number are followed
abbrev pub IsBlockFollowed : Model → List Decision → Stored → List ℕ → ℕ → Type 0
IsBlockFollowed model decisions stored due number =
    (block : TokenBlock) (entries : Entries)
    → slice_get (content_now stored).blocks number ≡ Some block → IsBlock model block entries
    → AreBranchesFollowed model decisions (content_now stored) due block entries

-- for whatever list the old store was underway, the first so many of the blocks that watch the variable are followed in the new
-- one, if they are unfolded
abbrev pub FollowsWatchers : Model → ℕ → ℕ → ℕ → Stored → Stored → Type 0
FollowsWatchers model unfolded variable count old new =
    (decisions : List Decision) (due heeded : List ℕ) (place number : ℕ)
    → IsStoreUnderway model decisions decisions old unfolded due
    → place < count → slice_get (blocks_watching old.watches variable) place ≡ Some number → number < unfolded
    → IsBlockFollowed model decisions new heeded number

-- a part that tells when tokens take turns
abbrev pub TellsTurns : Part → Type 0
TellsTurns parts.Start = ⊤
TellsTurns parts.End = ⊤
TellsTurns parts.Object = ⊤
TellsTurns part = ⊥

-- the token takes its turns whose part the variable is
abbrev pub OwnerTakesTurns : Model → ℕ → Stored → Stored → Type 0
OwnerTakesTurns model variable old new =
    (place : ℕ) (part : Part) → slice_get old.keys variable ≡ Some (key.Part place part) → TellsTurns part
    → TakesTurns model place old new

-- a store that was on its way still is
abbrev pub KeepsWay : Model → Stored → Stored → Type 0
KeepsWay model old new =
    (decisions : List Decision) (unfolded : ℕ) (due : List ℕ)
    → IsOnWay model decisions old unfolded due → IsOnWay model decisions new unfolded due

-- what looking at the variable answers and leaves: it isn't due any more
abbrev pub LooksAt : Model → ℕ → ℕ → Stored → Result (Unit {0}) NetFault → Stored → Type 0
LooksAt model unfolded variable old (Ok done) new =
    (decisions : List Decision) (due : List ℕ)
    → IsOnWay model decisions old unfolded (variable ∷ due) → IsOnWay model decisions new unfolded due
LooksAt model unfolded variable old (Err Collapsed) new =
    (decisions : List Decision) (due : List ℕ)
    → IsOnWay model decisions old unfolded (variable ∷ due) → LeaveNothing model decisions
LooksAt model unfolded variable old (Err Memory) new = ⊤
