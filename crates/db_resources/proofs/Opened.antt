-- What stands in an open block.
use Rattle.std.proofs.Common.{◌≡◌, List, [], Some, sym, subst}
use Rattle.std.specs.Prelude.{slice_get}
use Rattle.std.proofs.lemmas.Option.{get_or_from_slice_get}
use Rattle.eu_name.specs.declared.name.TokenName.{TokenName}
use Rattle.model_core.specs.declared.model.Model.{Model}
use Rattle.model_core.specs.declared.rule.Turn.{Turn}
use Rattle.model_core.specs.Blocks.{IsBlock}
use Rattle.model_core.specs.Entries.{Entries}
use Rattle.db_store.specs.declared.key.OpenBlock.{OpenBlock}
use Rattle.db_store.specs.Keys.{named_block}

-- the block, where its token has this name and its way is this
pub is_at : (model : Model) (names : List TokenName) (block : OpenBlock) (token : TokenName) (path : List Turn) (entries : Entries) → Some token ≡ slice_get names block.token
    → path ≡ block.path → IsBlock model (named_block names block) entries → IsBlock model (record { token = token; rule = block.rule; path = path }) entries
is_at model names block token path entries at same is =
    subst (λ (p : List Turn). IsBlock model (record { token = token; rule = block.rule; path = p }) entries) (sym same)
    (subst (λ (t : TokenName). IsBlock model (record { token = t; rule = block.rule; path = block.path }) entries)
    (get_or_from_slice_get names block.token token (record { root = 0; steps = [] }) (sym at)) is)
