-- The slots of the block that is open.
use Rattle.std.proofs.Common.{List, slice_get, ap, ◌∙◌, subst}
use Rattle.model_core.specs.declared.rule.Turn.{Turn}
use Rattle.rule_engine.specs.Contents.{AreAdditions}
use Rattle.token_store.specs.Tokens.{TokenPast, tokens_now, token_names}
use Rattle.db_posting.specs.Origins.{content_now}
use Rattle.db_fixpoint.proofs.Asking.{slots_named}
use Rattle.db_fixpoint.proofs.FollowedBranches.{is_at}
use Rattle.db_fixpoint.proofs.slots.asked_by.Goals as goal

pub open_block-requires-clause-there : goal.open_block-requires-clause-there
open_block-requires-clause-there c =
    let there = c.requires.there in
    let at = c.in-Some.ensures ∙ ap (λ (past : TokenPast). slice_get (token_names (tokens_now past)) c.args.block.now.token) c.tokens.ensures in
    (there.0, is_at c.args.model.now (content_now c.args.store.now).tokens c.args.block.now c.in-Some.token.now c.as_slice-path.result.now there.0 at c.as_slice-path.ensures there.1.is_block)

pub returns : goal.returns
returns c = λ entries stand.
    let at = c.in-Some.ensures ∙ ap (λ (past : TokenPast). slice_get (token_names (tokens_now past)) c.args.block.now.token) c.tokens.ensures in
    slots_named c.args.model.now (content_now c.args.store.now).tokens c.args.block.now c.in-Some.token.now c.in_ok-slots-in-Some.field-0 at
    (subst (λ (path : List Turn). AreAdditions c.args.model.now (record { token = c.in-Some.token.now; rule = c.args.block.now.rule; path = path }) c.in_ok-slots-in-Some.field-0)
    c.as_slice-path.ensures c.in_ok-slots-in-Some.ensures) entries stand.is_block
