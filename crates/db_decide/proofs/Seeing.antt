-- An open block, as it is found by its number.
use Rattle.std.proofs.Common.{◌≡◌, ℕ, ◌<◌, List, length, Some, sym, ap, ◌∙◌, subst, option_map, arith}
use Rattle.std.specs.Prelude.{slice_get}
use Rattle.std.proofs.lemmas.List.{length-map}
use Rattle.std.proofs.lemmas.Option.{slice_get-map}
use Rattle.std.proofs.lemmas.List.Elements.{All-contains}
use Rattle.eu_name.specs.declared.name.TokenName.{TokenName}
use Rattle.model_core.specs.declared.model.Model.{Model}
use Rattle.model_core.specs.declared.rule.Turn.{Turn}
use Rattle.model_core.specs.Blocks.{TokenBlock, IsBlock}
use Rattle.model_core.specs.Entries.{Entries}
use Rattle.model_core.specs.State.{IsBlockOf}
use Rattle.token_store.specs.Orders.{name_at}
use Rattle.token_store.specs.Tokens.{tokens_now}
use Rattle.plan_defs.specs.Terms.{InRule}
use Rattle.eu_name.proofs.Members.{get_same, get_within, get_all, contains_from_get}
use Rattle.model_core.specs.Content.{Content, shown, IsContent}
use Rattle.db_store.specs.Keys.{named_block}
use Rattle.db_store.specs.Stores.{Stored, snapshot_of, IsSnapshot}
use Rattle.db_store.specs.declared.key.OpenBlock.{OpenBlock}
use Rattle.db_posting.specs.Origins.{content_now}

module _ (model : Model) (stored : Stored) (is : IsContent model (content_now stored)) (number : ℕ) (found : OpenBlock) (at : slice_get stored.blocks number ≡ Some found) where
  abbrev content : Content
  content = content_now stored

  abbrev named : TokenBlock
  named = named_block content.tokens found

  named_at_number : slice_get content.blocks number ≡ Some named
  named_at_number = slice_get-map (named_block content.tokens) stored.blocks number ∙ ap (option_map (named_block content.tokens)) at

  pub seen_there : (token : TokenName) (path : List Turn) → token ≡ name_at content.tokens found.token → path ≡ found.path
      → (entries : Entries) × IsBlock model (record { token = token; rule = found.rule; path = path }) entries
  seen_there token path of way =
      let there = (All-contains (IsBlockOf model (shown content)) content.blocks named is.blocks (contains_from_get content.blocks number named named_at_number)).1 in
      let same : named ≡ record { token = token; rule = found.rule; path = path } = λ i. record { token = sym of i; rule = found.rule; path = sym way i } in
      (there.0, subst (λ (b : TokenBlock). IsBlock model b there.0) same there.1)

  is_named : (block : TokenBlock) → slice_get content.blocks number ≡ Some block → named ≡ block
  is_named block here = get_same content.blocks number named block named_at_number here

  pub seen_context : (block : TokenBlock) → slice_get content.blocks number ≡ Some block → InRule (name_at content.tokens found.token) found.rule ≡ InRule block.token block.rule
  seen_context block here = ap (λ (b : TokenBlock). InRule b.token b.rule) (is_named block here)

  pub seen_block : (token : TokenName) (path : List Turn) → token ≡ name_at content.tokens found.token → path ≡ found.path → (block : TokenBlock) (entries : Entries)
      → slice_get content.blocks number ≡ Some block → IsBlock model block entries → IsBlock model (record { token = token; rule = found.rule; path = path }) entries
  seen_block token path of way block entries here has =
      let same : named ≡ record { token = token; rule = found.rule; path = path } = λ i. record { token = sym of i; rule = found.rule; path = sym way i } in
      subst (λ (b : TokenBlock). IsBlock model b entries) (sym (is_named block here) ∙ same) has

-- the open block of a number, with what stands in it
pub open_at : (model : Model) (stored : Stored) → IsContent model (content_now stored) → (number : ℕ) → number < length stored.blocks
    → (block : TokenBlock) × (slice_get (content_now stored).blocks number ≡ Some block) × ((entries : Entries) × IsBlock model block entries)
open_at model stored is number below =
    let content = content_now stored in
    let found = get_within content.blocks number (omega (arith, below, length-map stored.blocks (named_block content.tokens))) in
    (found.0, found.1, (All-contains (IsBlockOf model (shown content)) content.blocks found.0 is.blocks (contains_from_get content.blocks number found.0 found.1)).1)

-- its token is there
pub seen_below : (stored : Stored) → IsSnapshot (snapshot_of stored) → (number : ℕ) (found : OpenBlock) → slice_get stored.blocks number ≡ Some found
    → found.token < length (tokens_now stored.past)
seen_below stored sound number found at = get_all (λ (block : OpenBlock). block.token < length (tokens_now stored.past)) stored.blocks number found sound.of_tokens at
