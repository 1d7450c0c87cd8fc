-- What reading an open block takes.
use Rattle.std.specs.Prelude.{◌≡◌, ℕ, Some, slice_get, Contains}
use Rattle.model_core.specs.declared.model.Model.{Model}
use Rattle.model_core.specs.declared.rule.Guard.{Guard}
use Rattle.model_core.specs.Blocks.{TokenBlock, IsBlock, Direct, direct, OfBranch}
use Rattle.model_core.specs.Entries.{Entries}
use Rattle.token_store.specs.Tokens.{tokens_now}
use Rattle.plan_defs.specs.Support.{one_side, other_side}
use Rattle.plan_defs.specs.Terms.{Context, InRule}
use Rattle.model_core.specs.Content.{Content}
use Rattle.db_refine.specs.Coming.{IsTermThere, IsWhatIsNamedThere}
use Rattle.db_store.specs.Keys.{named_block}
use Rattle.db_store.specs.Stores.{Stored}
use Rattle.db_store.specs.declared.key.OpenBlock.{OpenBlock}
use Rattle.db_posting.specs.Counting.{AreRootsThere}
use Rattle.db_posting.specs.Origins.{content_now}
use Rattle.db_posting.specs.Terms.{CanStand}
use Rattle.db_posting.specs.Wanted.{ArePreds}

-- the block, by name
abbrev pub block_named : Stored → OpenBlock → TokenBlock
block_named stored block = named_block (content_now stored).tokens block

-- these entries stand in the open block
pub record AreOpenEntries (model : Model) (stored : Stored) (block : OpenBlock) (entries : Entries) : Type 0 where
  pub is_open : Contains stored.blocks block
  pub preds : ArePreds model (tokens_now stored.past)
  pub is_block : IsBlock model (block_named stored block) entries

-- and all that they name is there
pub record CanRead (model : Model) (stored : Stored) (block : OpenBlock) (entries : Entries) : Type 0 where
  pub has : AreOpenEntries model stored block entries
  pub roots : AreRootsThere model (content_now stored)
  pub named : (what : Direct) → Contains (direct entries) what
      → IsWhatIsNamedThere (content_now stored) (block_named stored block).token block.rule what

-- the guard stands at this place of the open block, and what it names is there
abbrev pub IsBranchAt : Model → Stored → OpenBlock → ℕ → Guard → Type 0
IsBranchAt model stored block place guard =
    (entries : Entries) × CanRead model stored block entries
    × ((then otherwise : Entries) × (slice_get (direct entries) place ≡ Some (OfBranch guard then otherwise)))

-- the terms of the guard mean something where it stands, and that is there
pub record IsGuardNamed (content : Content) (context : Context) (guard : Guard) : Type 0 where
  pub one_stands : CanStand context (one_side guard)
  pub other_stands : CanStand context (other_side guard)
  pub one_there : IsTermThere content context (one_side guard)
  pub other_there : IsTermThere content context (other_side guard)

-- so it is with each guard that stands directly in the block
abbrev pub AreGuardsNamed : Content → TokenBlock → Entries → Type 0
AreGuardsNamed content block entries =
    (guard : Guard) (then otherwise : Entries) → Contains (direct entries) (OfBranch guard then otherwise)
    → IsGuardNamed content (InRule block.token block.rule) guard

-- the open block of this number can be read
abbrev pub CanReadAt : Model → Stored → ℕ → Type 0
CanReadAt model stored number =
    (block : OpenBlock) × (slice_get stored.blocks number ≡ Some block)
    × ((entries : Entries) × CanRead model stored block entries)
