use Rattle.std.proofs.Common.{slice_get, sym, ap, ◌∙◌, subst}
use Rattle.std.specs.Prelude.{All}
use Rattle.token_store.specs.Orders.{name_at}
use Rattle.token_store.specs.Tokens.{TokenPast, tokens_now, token_names, token_preds}
use Rattle.db_store.specs.Keys.{named_block}
use Rattle.db_opening.specs.Opened.{AreLocalsOf}
use Rattle.db_posting.specs.Wanted.{IsNamedLocal}
use Rattle.db_opening.proofs.Opening.{pred_is, locals_are, brings_block}
use Rattle.db_opening.proofs.blocks.bring_block.Goals as goal

pub bring_locals-requires : goal.bring_locals-requires
bring_locals-requires c =
    let model = c.args.model.now in
    let tokens = tokens_now c.args.store.now.past in
    let block = c.args.block.now in
    let preds = pred_is model tokens block.token c.in-Some.pred c.requires.preds
    (c.in-Some.ensures ∙ ap (λ (past : TokenPast). slice_get (token_preds (tokens_now past)) block.token) c.tokens.ensures) c.requires.token in
    let are = subst (λ (past : TokenPast). AreLocalsOf model (named_block (token_names (tokens_now past)) block) c.in_ok-locals.locals.items) c.tokens-2.ensures c.in_ok-locals.ensures in (
      c.requires.token,
      subst (All (IsNamedLocal model c.in-Some.pred block.rule (name_at (token_names tokens) block.token))) (sym c.as_slice.ensures.value)
          (locals_are model (token_names tokens) block c.requires.lawful c.requires.there.0 c.requires.there.1 c.in-Some.pred preds c.in_ok-locals.locals.items are),
    )

pub returns-clause-brings : goal.returns-clause-brings
returns-clause-brings c =
    let model = c.args.model.now in
    let tokens = tokens_now c.args.store.now.past in
    let block = c.args.block.now in
    let preds = pred_is model tokens block.token c.in-Some.pred c.requires.preds
    (c.in-Some.ensures ∙ ap (λ (past : TokenPast). slice_get (token_preds (tokens_now past)) block.token) c.tokens.ensures) c.requires.token in
    let are = subst (λ (past : TokenPast). AreLocalsOf model (named_block (token_names (tokens_now past)) block) c.in_ok-locals.locals.items) c.tokens-2.ensures c.in_ok-locals.ensures in
    brings_block model (token_names tokens) block c.requires.lawful c.requires.there.0 c.requires.there.1 c.in-Some.pred preds c.as_slice.result.now
    (subst (AreLocalsOf model (named_block (token_names tokens) block)) (sym c.as_slice.ensures.value) are)
    c.args.store.now c.bring_locals.new.store c.bring_locals.result c.bring_locals.ensures.brings
