-- What looking at the branches of an open block comes to.
use Rattle.std.specs.Prelude.{◌≡◌, ◌<◌, ℕ, ⊤, List, Some, slice_get, Contains, Result}
use Rattle.model_core.specs.declared.decision.Decision.{Decision}
use Rattle.model_core.specs.declared.model.Model.{Model}
use Rattle.model_core.specs.declared.rule.Guard.{Guard}
use Rattle.model_core.specs.declared.rule.Side.{Side}
use Rattle.model_core.specs.Blocks.{TokenBlock, IsBlock, direct, OfBranch, block_at}
use Rattle.model_core.specs.Entries.{Entries}
use Rattle.model_core.specs.Numbers.{turned}
use Rattle.constraint_net.specs.declared.NetFault.{NetFault}
use Rattle.plan_defs.specs.Resources.{OpensIn}
use Rattle.model_core.specs.Content.{Content, shown}
use Rattle.db_refine.specs.Progress.{AreBranchesFollowed}
use Rattle.db_store.specs.Stores.{Stored, snapshot_of}
use Rattle.db_posting.specs.Counting.{AreTokenStates}
use Rattle.db_posting.specs.Origins.{content_now}
use Rattle.db_posting.specs.Underway.{IsStoreUnderway, StaysUnderway}

-- a step that asks for nothing but what the store asks for itself
abbrev pub StaysOnWay : Model → Stored → Result (Unit {0}) NetFault → Stored → Type 0
StaysOnWay model old result new = StaysUnderway model (λ decisions. ⊤) old result new

-- the block on each side that the guard at the place opens in the one content is in the other
abbrev pub IsSideOpen : Model → List Decision → Content → TokenBlock → ℕ → Guard → Content → Type 0
IsSideOpen model decisions old block place guard new =
    (side : Side) → OpensIn model decisions (shown old) block guard side
    → Contains new.blocks (block_at block.token block.rule (turned block.path place side))

-- so it is for whatever decisions have made the states of the tokens
abbrev pub FollowsBranch : Model → TokenBlock → ℕ → Guard → Stored → Stored → Type 0
FollowsBranch model block place guard old new =
    (decisions : List Decision) → AreTokenStates model decisions (snapshot_of old)
    → IsSideOpen model decisions (content_now old) block place guard (content_now new)

-- so it is with all of the first so many entries that are branches
abbrev pub FollowsFirst : Model → TokenBlock → Entries → ℕ → Stored → Stored → Type 0
FollowsFirst model block entries count old new =
    (place : ℕ) (guard : Guard) (then otherwise : Entries)
    → place < count → slice_get (direct entries) place ≡ Some (OfBranch guard then otherwise)
    → FollowsBranch model block place guard old new

-- whatever lists the old store was underway for, the branches of its block of this number are followed in the new one, whatever
-- is due there
abbrev pub FollowsBranches : Model → ℕ → Stored → Stored → Type 0
FollowsBranches model number old new =
    (followed decisions : List Decision) (unfolded : ℕ) (due later : List ℕ) (block : TokenBlock) (entries : Entries)
    → IsStoreUnderway model followed decisions old unfolded due
    → slice_get (content_now old).blocks number ≡ Some block → IsBlock model block entries
    → AreBranchesFollowed model decisions (content_now new) later block entries
