-- Whether further tokens can come, as a store at rest shows it: by the states of its tokens and by its open blocks.
use Rattle.std.specs.Prelude.{◌≡◌, ◌⊎◌, ℕ, Some, slice_get, Contains, ⊤}
use Rattle.model_core.specs.declared.item.Term.{Term}
use Rattle.model_core.specs.declared.item.Term.TheVariants as term
use Rattle.model_core.specs.declared.model.Model.{Model}
use Rattle.model_core.specs.declared.rule.Entry.{Entry}
use Rattle.model_core.specs.declared.rule.Entry.TheVariants as entry
use Rattle.model_core.specs.declared.rule.Guard.{Guard}
use Rattle.model_core.specs.declared.rule.Side.{Side}
use Rattle.model_core.specs.declared.rule.Side.TheVariants.{Then, Otherwise}
use Rattle.model_core.specs.declared.view.TokenState.TheVariants.{Inactive, Rejected}
use Rattle.model_core.specs.Blocks.{IsBlock, direct, OfBranch}
use Rattle.model_core.specs.Entries.{Entries}
use Rattle.model_core.specs.Numbers.{turned}
use Rattle.model_core.specs.Tokens.{IsRejectable, root_token}
use Rattle.plan_defs.specs.Support.{one_side, other_side}
use Rattle.db_store.specs.declared.key.OpenBlock.{OpenBlock}
use Rattle.db_store.specs.Keys.{named_block}
use Rattle.db_store.specs.Stores.{Stored}
use Rattle.token_store.specs.Tokens.{TokenList, tokens_now, token_names, token_states}
use Rattle.db_refusals.specs.Judging.{IsKeptAs}

-- something is decided of each token
abbrev pub AreAllDecided : TokenList → Type 0
AreAllDecided tokens = (place : ℕ) → slice_get (token_states tokens) place ≡ Some Inactive → ⊥

-- the term is a part of a rejectable root that is kept as rejected
abbrev pub IsRootOut : Model → TokenList → Term → Type 0
IsRootOut model tokens (term.Root number part) =
    IsRejectable model (root_token number) × IsKeptAs tokens (root_token number) Rejected
IsRootOut model tokens term = ⊥

-- the block on this side of the branch at the place
abbrev pub block_behind : OpenBlock → ℕ → Side → OpenBlock
block_behind block place side = record block { path = turned block.path place side }

-- the guard names one
abbrev pub NamesOneOut : Model → TokenList → Guard → Type 0
NamesOneOut model tokens guard = IsRootOut model tokens (one_side guard) ⊎ IsRootOut model tokens (other_side guard)

-- a block of the branch at this place is open
abbrev pub IsOneOpen : Stored → OpenBlock → ℕ → Type 0
IsOneOpen stored block place =
    Contains stored.blocks (block_behind block place Then) ⊎ Contains stored.blocks (block_behind block place Otherwise)

-- it is, or the guard names a root that is rejected
abbrev pub IsCertainBranch : Model → Stored → OpenBlock → ℕ → Guard → Type 0
IsCertainBranch model stored block place guard =
    IsOneOpen stored block place ⊎ NamesOneOut model (tokens_now stored.past) guard

-- the entry, if it is a branch, is such
abbrev pub IsCertainEntry : Model → Stored → OpenBlock → ℕ → Entry → Type 0
IsCertainEntry model stored block place (entry.Branch guard then otherwise) = IsCertainBranch model stored block place guard
IsCertainEntry model stored block place other = ⊤

-- so is each branch among these entries
abbrev pub AreCertainIn : Model → Stored → OpenBlock → Entries → Type 0
AreCertainIn model stored block entries =
    (place : ℕ) (guard : Guard) (then otherwise : Entries)
    → slice_get (direct entries) place ≡ Some (OfBranch guard then otherwise) → IsCertainBranch model stored block place guard

-- these entries stand in the block
abbrev pub HasOpenEntries : Model → Stored → OpenBlock → Entries → Type 0
HasOpenEntries model stored block entries = IsBlock model (named_block (token_names (tokens_now stored.past)) block) entries

-- so is each branch in the open block of this number
abbrev pub AreCertainAt : Model → Stored → ℕ → Type 0
AreCertainAt model stored number =
    (block : OpenBlock) (entries : Entries)
    → slice_get stored.blocks number ≡ Some block → HasOpenEntries model stored block entries
    → AreCertainIn model stored block entries

-- so is each branch in each open block
abbrev pub AreAllCertain : Model → Stored → Type 0
AreAllCertain model stored = (number : ℕ) → AreCertainAt model stored number

-- the model has each open block
abbrev pub AreBlocksOf : Model → Stored → Type 0
AreBlocksOf model stored =
    (number : ℕ) (block : OpenBlock)
    → slice_get stored.blocks number ≡ Some block → (entries : Entries) × HasOpenEntries model stored block entries
