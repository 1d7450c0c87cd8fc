use Rattle.std.proofs.Common.{Some, None, sym, subst}
use Rattle.model_core.specs.Content.{shown}
use Rattle.db_store.specs.Stores.{snapshot_of, named_content}
use Rattle.token_store.specs.Tokens.{TokenPast, tokens_now}
use Rattle.db_refusals.specs.Judging.{FindsUndecided}
use Rattle.db_refusals.proofs.First.{activate_full, activate_free}
use Rattle.db_refusals.proofs.Undecided.{activate_refused}
use Rattle.db_refusals.proofs.Told.{isnt, is_so}
use Rattle.db_refusals.proofs.judge.against_activate.Goals as goal

pub returns-in-Some : goal.returns-in-Some
returns-in-Some c = λ model decisions told.
    activate_refused model decisions (snapshot_of c.args.store.now) c.args.token.now c.in-Some.reason
    (subst (λ (past : TokenPast). FindsUndecided model decisions (tokens_now past) c.args.token.now (Some c.in-Some.reason)) c.tokens.ensures
    (c.in-Some.ensures model decisions (snapshot_of c.args.store.now) (λ i. tokens_now (sym c.tokens.ensures i)) told))

pub returns-then-is_full : goal.returns-then-is_full
returns-then-is_full c = λ model decisions told.
    let finds = subst (λ (past : TokenPast). FindsUndecided model decisions (tokens_now past) c.args.token.now None) c.tokens.ensures
    (c.in_default.ensures model decisions (snapshot_of c.args.store.now) (λ i. tokens_now (sym c.tokens.ensures i)) told) in
    activate_full model decisions (shown (named_content (snapshot_of c.args.store.now))) c.args.token.now finds.0 finds.1
    (is_so (c.if-is_full.ensures model decisions (snapshot_of c.args.store.now) (λ i. tokens_now (sym c.tokens-2.ensures i)) told))

pub returns : goal.returns
returns c = λ model decisions told.
    let finds = subst (λ (past : TokenPast). FindsUndecided model decisions (tokens_now past) c.args.token.now None) c.tokens.ensures
    (c.in_default.ensures model decisions (snapshot_of c.args.store.now) (λ i. tokens_now (sym c.tokens.ensures i)) told) in
    activate_free model decisions (shown (named_content (snapshot_of c.args.store.now))) c.args.token.now finds.0 finds.1
    (isnt (c.if-is_full.ensures model decisions (snapshot_of c.args.store.now) (λ i. tokens_now (sym c.tokens-2.ensures i)) told))
