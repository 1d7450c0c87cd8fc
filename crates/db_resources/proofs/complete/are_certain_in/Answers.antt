use Rattle.std.proofs.Common.{◌≡◌, length, Some, None, sym, ap, ◌∙◌, subst, arith}
use Rattle.std.specs.Prelude.{MatchBool, slice_get, option_copied}
use Rattle.std.proofs.lemmas.List.{length-map}
use Rattle.std.proofs.lemmas.Result.{IfOk-weaker}
use Rattle.eu_name.specs.declared.name.TokenName.{TokenName}
use Rattle.model_core.specs.Block.{plain_entries}
use Rattle.model_core.specs.Blocks.{direct}
use Rattle.model_core.specs.Entries.{Entries}
use Rattle.eu_name.proofs.Members.{get_within}
use Rattle.db_store.specs.Keys.{named_block}
use Rattle.rule_engine.proofs.Limits.{as_many}
use Rattle.token_store.specs.Tokens.{TokenPast, tokens_now, token_names}
use Rattle.token_store.specs.declared.trail.Token.{Token}
use Rattle.db_resources.specs.Completeness.{AreCertainIn, HasOpenEntries}
use Rattle.db_resources.proofs.Opened.{is_at}
use Rattle.rule_engine.proofs.Entries.{few_entries}
use Rattle.db_resources.proofs.complete.are_certain_in.Goals as goal

pub are_certain_entries-requires : goal.are_certain_entries-requires
are_certain_entries-requires c =
    let there = c.requires.there in
    let names = token_names (tokens_now c.args.store.now.past) in
    let same = (ap plain_entries c.as_slice-in-Some.ensures.value ∙ c.found.view_is)
    ∙ c.block_of-found.ensures there.0 (is_at c.args.model.now names c.args.block.now c.in-Some.token.now c.as_slice.result.now there.0
    (c.in-Some.ensures ∙ ap (λ (past : TokenPast). slice_get (token_names (tokens_now past)) c.args.block.now.token) c.tokens.ensures) c.as_slice.ensures there.1) in
    omega (
      arith,
      as_many c.as_slice-in-Some.result.now,
      ap (λ e. length (direct e)) same,
      few_entries c.args.model.now (named_block names c.args.block.now) there.0 c.requires.lawful there.1,
    )

pub unreachable-requires : goal.unreachable-requires
unreachable-requires c =
    let tokens = tokens_now c.args.store.now.past in
    let long = length-map tokens (λ (token : TokenName × Token). token.0) in
    let name = get_within (token_names tokens) c.args.block.now.token (omega (arith, long, c.requires.token)) in
    let none : slice_get (token_names (tokens_now c.tokens.result.now)) c.args.block.now.token ≡ None = sym c.name.ensures ∙ ap option_copied c.in-None.is in
    let same : slice_get (token_names (tokens_now c.tokens.result.now)) c.args.block.now.token ≡ Some name.0 =
    ap (λ (past : TokenPast). slice_get (token_names (tokens_now past)) c.args.block.now.token) c.tokens.ensures ∙ name.1 in
    let both : None ≡ Some name.0 = sym none ∙ same in
    cc

pub returns : goal.returns
returns c =
    let model = c.args.model.now in
    let store = c.args.store.now in
    let block = c.args.block.now in
    let names = token_names (tokens_now store.past) in
    let found = plain_entries c.as_slice-in-Some.result.now in
    IfOk-weaker c.are_certain_entries.result
    (λ certain. MatchBool certain (AreCertainIn model store block found) (AreCertainIn model store block found → ⊥))
    (λ certain. (entries : Entries) → HasOpenEntries model store block entries → MatchBool certain (AreCertainIn model store block entries) (AreCertainIn model store block entries → ⊥))
    (λ certain told entries has. subst (λ e. MatchBool certain (AreCertainIn model store block e) (AreCertainIn model store block e → ⊥))
    ((ap plain_entries c.as_slice-in-Some.ensures.value ∙ c.found.view_is)
    ∙ c.block_of-found.ensures entries (is_at model names block c.in-Some.token.now c.as_slice.result.now entries
    (c.in-Some.ensures ∙ ap (λ (past : TokenPast). slice_get (token_names (tokens_now past)) block.token) c.tokens.ensures) c.as_slice.ensures has)) told)
    c.are_certain_entries.ensures
