-- The block that was found is the one that is open.
use Rattle.std.proofs.Common.{length, slice_get, ap, ◌∙◌, arith}
use Rattle.model_core.specs.Block.{plain_entries}
use Rattle.model_core.specs.Blocks.{direct}
use Rattle.rule_engine.proofs.Limits.{as_many}
use Rattle.token_store.specs.Tokens.{TokenPast, tokens_now, token_names}
use Rattle.db_posting.specs.Origins.{content_now}
use Rattle.db_fixpoint.specs.Reading.{block_named}
use Rattle.db_fixpoint.proofs.FollowedBranches.{is_at, few_entries}
use Rattle.db_fixpoint.proofs.reading.entries_of.Goals as goal

pub returns-clause-are : goal.returns-clause-are
returns-clause-are c = λ entries stand.
    (ap plain_entries c.as_slice.ensures.value ∙ c.behind-model.view_is)
    ∙ c.block_of.ensures entries (is_at c.args.model.now (content_now c.args.store.now).tokens c.args.block.now c.in-Some.token.now c.as_slice-path.result.now entries
    (c.in-Some.ensures ∙ ap (λ (past : TokenPast). slice_get (token_names (tokens_now past)) c.args.block.now.token) c.tokens.ensures) c.as_slice-path.ensures stand.is_block)

pub returns-clause-few : goal.returns-clause-few
returns-clause-few c =
    let there = c.requires.there in
    let same = (ap plain_entries c.as_slice.ensures.value ∙ c.behind-model.view_is)
    ∙ c.block_of.ensures there.0 (is_at c.args.model.now (content_now c.args.store.now).tokens c.args.block.now c.in-Some.token.now c.as_slice-path.result.now there.0
    (c.in-Some.ensures ∙ ap (λ (past : TokenPast). slice_get (token_names (tokens_now past)) c.args.block.now.token) c.tokens.ensures) c.as_slice-path.ensures there.1.is_block) in
    omega (
      arith,
      as_many c.as_slice.result.now,
      ap (λ e. length (direct e)) same,
      few_entries c.args.model.now (block_named c.args.store.now c.args.block.now) there.0 c.requires.lawful there.1.is_block,
    )
