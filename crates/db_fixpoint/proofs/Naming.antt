-- What a block names is there while a store is underway.
use Rattle.std.proofs.Common.{◌≡◌, ℕ, ◌≤◌, List, Some, ap, ◌∙◌, arith}
use Rattle.std.specs.Prelude.{Contains, slice_get}
use Rattle.std.specs.Option.{option_map}
use Rattle.std.proofs.lemmas.Option.{slice_get-map}
use Rattle.model_core.specs.declared.decision.Decision.{Decision}
use Rattle.model_core.specs.declared.model.Model.{Model}
use Rattle.model_core.specs.Blocks.{TokenBlock, IsBlock, direct, OfSlot}
use Rattle.model_core.specs.Entries.{Entries}
use Rattle.model_core.specs.Lawful.{IsLawful}
use Rattle.model_core.specs.State.{IsBlockOf}
use Rattle.model_core.specs.Tokens.{slot_token}
use Rattle.eu_name.proofs.Members.{get_all, get_within, get_from_contains, contains_from_get}
use Rattle.model_core.specs.Content.{Content, shown}
use Rattle.db_refine.proofs.Naming.{named_there}
use Rattle.db_store.specs.Keys.{named_block}
use Rattle.db_store.specs.Stores.{Stored}
use Rattle.db_store.specs.declared.key.OpenBlock.{OpenBlock}
use Rattle.db_posting.specs.Origins.{content_now}
use Rattle.db_posting.specs.Underway.{IsStoreUnderway}
use Rattle.db_fixpoint.specs.Reading.{block_named, AreOpenEntries, CanRead}
use Rattle.db_fixpoint.specs.UnfoldingLaws.{UnfoldedBlocksCanBeRead}

module _ (model : Model) (followed decisions : List Decision) (stored : Stored) (unfolded number : ℕ) (due : List ℕ) (under : IsStoreUnderway model followed decisions stored unfolded due)
    (block : OpenBlock) (at : slice_get stored.blocks number ≡ Some block) where
  abbrev content : Content
  content = content_now stored

  abbrev named : TokenBlock
  named = block_named stored block

  pub named_so : slice_get content.blocks number ≡ Some named
  named_so = slice_get-map (named_block content.tokens) stored.blocks number ∙ ap (option_map (named_block content.tokens)) at

  pub has_entries : (entries : Entries) × IsBlock model named entries
  has_entries = (get_all (IsBlockOf model (shown content)) content.blocks number named under.justified.is_content.blocks named_so).1

  pub open_entries : (entries : Entries) → IsBlock model named entries → AreOpenEntries model stored block entries
  open_entries entries is = record { is_open = contains_from_get stored.blocks number block at; preds = under.preds; is_block = is }

  pub entries_read : IsLawful model → number ≤ unfolded → (entries : Entries) → IsBlock model named entries
      → ((slot : ℕ) → Contains (direct entries) (OfSlot slot) → Contains content.tokens (slot_token named.token named.rule slot)) → CanRead model stored block entries
  entries_read lawful below entries is slots = record {
    has = open_entries entries is;
    roots = under.complete.roots;
    named = λ what stands.
        let place = get_from_contains (direct entries) what stands in
        named_there model followed stored.net.constraints content unfolded due lawful under.justified.is_content under.complete number named entries named_so below is slots place.0 what place.1;
  }

pub unfolded_blocks_can_be_read : UnfoldedBlocksCanBeRead
unfolded_blocks_can_be_read model followed decisions stored unfolded number due lawful under below =
    let block = get_within stored.blocks number (let within = under.within in omega (arith, below, within)) in
    let entries = has_entries model followed decisions stored unfolded number due under block.0 block.1 in
    let named = named_so model followed decisions stored unfolded number due under block.0 block.1 in (
      block.0,
      block.1,
      (
        entries.0,
        entries_read model followed decisions stored unfolded number due under block.0 block.1 lawful (omega (arith, below)) entries.0 entries.1
            (λ slot stands. under.complete.slots (block_named stored block.0) entries.0 slot (number, named, below) entries.1 stands),
      ),
    )
