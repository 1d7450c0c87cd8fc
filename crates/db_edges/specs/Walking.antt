-- Going through the rules of a token of a store.
use Rattle.std.specs.Prelude.{◌≡◌, ℕ, List, Some, slice_get, map}
use Rattle.eu_name.specs.declared.name.TokenName.{TokenName}
use Rattle.model_core.specs.declared.model.Model.{Model}
use Rattle.model_core.specs.declared.rule.Entry.{Entry}
use Rattle.model_core.specs.Blocks.{TokenBlock, IsBlock, direct}
use Rattle.model_core.specs.Entries.{Entries}
use Rattle.model_core.specs.Numbers.{PlacedItem}
use Rattle.token_store.specs.Tokens.{tokens_now, token_names}
use Rattle.db_store.specs.declared.key.OpenBlock.{OpenBlock}
use Rattle.db_store.specs.Stores.{Stored}
use Rattle.plan_values.specs.Openings.{entry_direct}
use Rattle.db_edges.specs.Whole.{TokenItem}

-- the block to which the same way leads in the token's rule of this number
abbrev pub block_at_way : TokenName → ℕ → OpenBlock → TokenBlock
block_at_way token rule block = record { token = token; rule = rule; path = block.path }

-- the block is one of this rule of the token, and these entries stand in it
pub record IsBlockOfRule (model : Model) (stored : Stored) (token : TokenName) (rule : ℕ) (block : OpenBlock)
    (entries : Entries) : Type 0 where
  pub named : slice_get (token_names (tokens_now stored.past)) block.token ≡ Some token
  pub of_rule : block.rule ≡ rule
  pub is_block : IsBlock model (block_at_way token rule block) entries

-- the entry stands at this place of such a block
abbrev pub IsEntryOfRule : Model → Stored → TokenName → ℕ → OpenBlock → ℕ → Entry → Type 0
IsEntryOfRule model stored token rule block place entry =
    (entries : Entries) × IsBlockOfRule model stored token rule block entries
    × (slice_get (direct entries) place ≡ Some (entry_direct entry))

-- the items, as items of the token's rule of this number
abbrev pub of_rule : ℕ → List PlacedItem → List TokenItem
of_rule rule items = map (λ placed. record { rule = rule; placed = placed }) items
