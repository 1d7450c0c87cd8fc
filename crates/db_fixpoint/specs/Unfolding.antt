-- What unfolding an open block comes to.
use Rattle.std.specs.Prelude.{◌≡◌, ℕ, ◌+◌, ⊤, List, map, All, Contains, Result, Ok, Err}
use Rattle.eu_name.specs.declared.name.TokenName.{TokenName}
use Rattle.eu_name.specs.declared.name.VarName.{VarName}
use Rattle.model_core.specs.declared.decision.Decision.{Decision}
use Rattle.model_core.specs.declared.item.Item.{Item}
use Rattle.model_core.specs.declared.item.Term.{Term}
use Rattle.model_core.specs.declared.model.Model.{Model}
use Rattle.model_core.specs.declared.rule.Guard.{Guard}
use Rattle.model_core.specs.Blocks.{TokenBlock, direct, OfItem, OfBranch}
use Rattle.model_core.specs.Decided.{IsTaken}
use Rattle.model_core.specs.Entries.{Entries}
use Rattle.model_core.specs.Tokens.{slot_token}
use Rattle.rule_engine.specs.Lists.{slots_in}
use Rattle.constraint_net.specs.declared.NetFault.{NetFault}
use Rattle.constraint_net.specs.declared.NetFault.TheVariants.{Collapsed, Memory}
use Rattle.plan_defs.specs.Claims.{Claim, ItemSays}
use Rattle.plan_defs.specs.Refusals.{IsKnown}
use Rattle.plan_defs.specs.Terms.{Context, InRule, Variable, Means}
use Rattle.model_core.specs.Content.{Content, shown}
use Rattle.db_refine.specs.Growth.{LeaveNothing}
use Rattle.db_refine.specs.Progress.{GuardNames}
use Rattle.db_store.specs.Stores.{Stored, snapshot_of}
use Rattle.db_posting.specs.Counting.{AreTokenStates}
use Rattle.db_posting.specs.Origins.{content_now}
use Rattle.db_posting.specs.Posted.{PostsClaims}
use Rattle.db_opening.specs.Arriving.{AskForToken}
use Rattle.db_posting.specs.Underway.{IsStoreUnderway, IsWatched, GoesOnAs}

-- ---- slots

-- the tokens that the slots in the block ask for, in order of text
abbrev pub slot_tokens : TokenBlock → Entries → List TokenName
slot_tokens block entries = map (slot_token block.token block.rule) (slots_in (direct entries))

-- the decisions ask for each of the tokens
abbrev pub AskForTokens : Model → Content → List TokenName → List Decision → Type 0
AskForTokens model content tokens decisions = All (λ token. AskForToken model content token decisions) tokens

-- each decision is about what is there
abbrev pub AreAllKnown : Content → List Decision → Type 0
AreAllKnown content decisions = (decision : Decision) → Contains decisions decision → IsKnown (shown content) decision

-- ---- items

-- an item that stands directly in the block says the claim
abbrev pub BlockSays : Model → List Decision → TokenBlock → Entries → Claim → Type 0
BlockSays model decisions block entries claim =
    (item : Item) × Contains (direct entries) (OfItem item)
    × ItemSays model (IsTaken decisions) (InRule block.token block.rule) item claim

-- whatever decisions have made the states of the tokens, what the items in the block say is posted
abbrev pub PostsEntries : Model → TokenBlock → Entries → Stored → Stored → Type 0
PostsEntries model block entries old new =
    (decisions : List Decision) → AreTokenStates model decisions (snapshot_of old)
    → PostsClaims (content_now old).names (BlockSays model decisions block entries) old.net.constraints new.net.constraints

-- ---- guards

-- but for what watches what nothing changes, and none of that goes
pub record OnlyWatches (old new : Stored) : Type 0 where
  pub same : new ≡ record old { watches = new.watches }
  pub goes : GoesOnAs old.watches new.watches

-- the variable that the term means, if it means one, is watched by the block of this number
abbrev pub IsTermWatched : Stored → ℕ → Context → Term → Type 0
IsTermWatched stored number context term =
    (name : VarName) → Means context term (Variable name) → IsWatched (content_now stored) stored.watches number name

-- each variable that the guard names is watched by it
abbrev pub IsGuardWatched : Stored → ℕ → Context → Guard → Type 0
IsGuardWatched stored number context guard =
    (name : VarName) → GuardNames context guard name → IsWatched (content_now stored) stored.watches number name

-- each variable that a guard in the block names is watched by it
abbrev pub AreGuardsWatched : Stored → ℕ → TokenBlock → Entries → Type 0
AreGuardsWatched stored number block entries =
    (guard : Guard) (then otherwise : Entries) → Contains (direct entries) (OfBranch guard then otherwise)
    → IsGuardWatched stored number (InRule block.token block.rule) guard

-- ---- the whole block

-- what unfolding the first block that isn't unfolded answers and leaves, for whatever decisions the store is underway
abbrev pub UnfoldsBlock : Model → ℕ → Stored → Result (Unit {0}) NetFault → Stored → Type 0
UnfoldsBlock model number old (Ok done) new =
    (decisions : List Decision) (due : List ℕ)
    → IsStoreUnderway model decisions decisions old number due
    → IsStoreUnderway model decisions decisions new (number + 1) due
UnfoldsBlock model number old (Err Collapsed) new =
    (decisions : List Decision) (due : List ℕ)
    → IsStoreUnderway model decisions decisions old number due → LeaveNothing model decisions
UnfoldsBlock model number old (Err Memory) new = ⊤
