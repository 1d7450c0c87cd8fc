use Rattle.std.proofs.Common.{None, sym, subst}
use Rattle.model_core.specs.Content.{shown}
use Rattle.db_store.specs.Stores.{snapshot_of, named_content}
use Rattle.token_store.specs.Tokens.{TokenPast, tokens_now}
use Rattle.db_refusals.specs.Judging.{IsKeptAs, FindsUndecided}
use Rattle.db_refusals.proofs.First.{merge_inactive, merge_unlike, merge_free}
use Rattle.db_refusals.proofs.Told.{isnt, is_so, kept_there, kept_active, active_kept}
use Rattle.db_refusals.proofs.judge.against_merge.Goals as goal

pub returns-then-not-takes_place : goal.returns-then-not-takes_place
returns-then-not-takes_place c = λ decisions told.
    let kept = subst (λ (past : TokenPast). IsKeptAs (tokens_now past) c.args.target.now c.in-Some.kept) c.tokens.ensures c.in-Some.ensures in
    let there = kept_there c.args.model.now decisions (snapshot_of c.args.store.now) told c.args.target.now c.in-Some.kept kept in
    let finds = subst (λ (past : TokenPast). FindsUndecided c.args.model.now decisions (tokens_now past) c.args.token.now None) c.tokens-2.ensures
    (c.in_default-undecided.ensures c.args.model.now decisions (snapshot_of c.args.store.now) (λ i. tokens_now (sym c.tokens-2.ensures i)) told) in
    merge_inactive c.args.model.now decisions (shown (named_content (snapshot_of c.args.store.now))) c.args.token.now c.args.target.now (finds.0, there) finds.1
    (λ active. isnt c.if-not-takes_place.ensures (active_kept c.args.model.now decisions (snapshot_of c.args.store.now) told c.args.target.now c.in-Some.kept kept active))

pub returns-then-not-have_same_predicate : goal.returns-then-not-have_same_predicate
returns-then-not-have_same_predicate c = λ decisions told.
    let kept = subst (λ (past : TokenPast). IsKeptAs (tokens_now past) c.args.target.now c.in-Some.kept) c.tokens.ensures c.in-Some.ensures in
    let there = kept_there c.args.model.now decisions (snapshot_of c.args.store.now) told c.args.target.now c.in-Some.kept kept in
    let finds = subst (λ (past : TokenPast). FindsUndecided c.args.model.now decisions (tokens_now past) c.args.token.now None) c.tokens-2.ensures
    (c.in_default-undecided.ensures c.args.model.now decisions (snapshot_of c.args.store.now) (λ i. tokens_now (sym c.tokens-2.ensures i)) told) in
    let active = kept_active c.args.model.now decisions (snapshot_of c.args.store.now) told c.args.target.now c.in-Some.kept kept (is_so c.if-not-takes_place.ensures) in
    merge_unlike c.args.model.now decisions (shown (named_content (snapshot_of c.args.store.now))) c.args.token.now c.args.target.now (finds.0, there) finds.1
    (λ needs. needs active) c.if-not-have_same_predicate.ensures

pub returns : goal.returns
returns c = λ decisions told.
    let kept = subst (λ (past : TokenPast). IsKeptAs (tokens_now past) c.args.target.now c.in-Some.kept) c.tokens.ensures c.in-Some.ensures in
    let there = kept_there c.args.model.now decisions (snapshot_of c.args.store.now) told c.args.target.now c.in-Some.kept kept in
    let finds = subst (λ (past : TokenPast). FindsUndecided c.args.model.now decisions (tokens_now past) c.args.token.now None) c.tokens-2.ensures
    (c.in_default-undecided.ensures c.args.model.now decisions (snapshot_of c.args.store.now) (λ i. tokens_now (sym c.tokens-2.ensures i)) told) in
    let active = kept_active c.args.model.now decisions (snapshot_of c.args.store.now) told c.args.target.now c.in-Some.kept kept (is_so c.if-not-takes_place.ensures) in
    merge_free c.args.model.now decisions (shown (named_content (snapshot_of c.args.store.now))) c.args.token.now c.args.target.now (finds.0, there) finds.1
    (λ needs. needs active) (λ unlike. unlike c.if-not-have_same_predicate.ensures)
