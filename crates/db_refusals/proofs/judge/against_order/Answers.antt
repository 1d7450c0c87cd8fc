use Rattle.std.proofs.Common.{inl, inr, subst}
use Rattle.model_core.specs.Content.{shown}
use Rattle.db_store.specs.Stores.{snapshot_of, named_content}
use Rattle.token_store.specs.Tokens.{TokenPast, tokens_now}
use Rattle.db_refusals.specs.Judging.{IsKeptAs}
use Rattle.db_refusals.proofs.First.{order_inactive, order_same, order_free}
use Rattle.db_refusals.proofs.Told.{isnt, is_so, kept_there, kept_active, active_kept}
use Rattle.db_refusals.proofs.judge.against_order.Goals as goal

pub returns-then-not-takes_place : goal.returns-then-not-takes_place
returns-then-not-takes_place c = λ model told.
    let one = subst (λ (past : TokenPast). IsKeptAs (tokens_now past) c.args.one.now c.in-Some.first) c.tokens.ensures c.in-Some.ensures in
    let other = subst (λ (past : TokenPast). IsKeptAs (tokens_now past) c.args.other.now c.in-Some-state_of.second) c.tokens-2.ensures c.in-Some-state_of.ensures in
    let there = kept_there model c.args.decisions.now (snapshot_of c.args.store.now) told c.args.one.now c.in-Some.first one in
    let here = kept_there model c.args.decisions.now (snapshot_of c.args.store.now) told c.args.other.now c.in-Some-state_of.second other in
    order_inactive model c.args.decisions.now (shown (named_content (snapshot_of c.args.store.now))) c.args.one.now c.args.other.now (there, here) (isnt c.if-are_ordered.ensures)
    (inl (λ active. isnt c.if-not-takes_place.ensures (active_kept model c.args.decisions.now (snapshot_of c.args.store.now) told c.args.one.now c.in-Some.first one active)))

pub returns-then-not-takes_place-2 : goal.returns-then-not-takes_place-2
returns-then-not-takes_place-2 c = λ model told.
    let one = subst (λ (past : TokenPast). IsKeptAs (tokens_now past) c.args.one.now c.in-Some.first) c.tokens.ensures c.in-Some.ensures in
    let other = subst (λ (past : TokenPast). IsKeptAs (tokens_now past) c.args.other.now c.in-Some-state_of.second) c.tokens-2.ensures c.in-Some-state_of.ensures in
    let there = kept_there model c.args.decisions.now (snapshot_of c.args.store.now) told c.args.one.now c.in-Some.first one in
    let here = kept_there model c.args.decisions.now (snapshot_of c.args.store.now) told c.args.other.now c.in-Some-state_of.second other in
    order_inactive model c.args.decisions.now (shown (named_content (snapshot_of c.args.store.now))) c.args.one.now c.args.other.now (there, here) (isnt c.if-are_ordered.ensures)
    (inr (λ active. isnt c.if-not-takes_place-2.ensures (active_kept model c.args.decisions.now (snapshot_of c.args.store.now) told c.args.other.now c.in-Some-state_of.second other active)))

pub returns-then-is_same_token : goal.returns-then-is_same_token
returns-then-is_same_token c = λ model told.
    let one = subst (λ (past : TokenPast). IsKeptAs (tokens_now past) c.args.one.now c.in-Some.first) c.tokens.ensures c.in-Some.ensures in
    let other = subst (λ (past : TokenPast). IsKeptAs (tokens_now past) c.args.other.now c.in-Some-state_of.second) c.tokens-2.ensures c.in-Some-state_of.ensures in
    let there = kept_there model c.args.decisions.now (snapshot_of c.args.store.now) told c.args.one.now c.in-Some.first one in
    let here = kept_there model c.args.decisions.now (snapshot_of c.args.store.now) told c.args.other.now c.in-Some-state_of.second other in
    let first = kept_active model c.args.decisions.now (snapshot_of c.args.store.now) told c.args.one.now c.in-Some.first one (is_so c.if-not-takes_place.ensures) in
    let second = kept_active model c.args.decisions.now (snapshot_of c.args.store.now) told c.args.other.now c.in-Some-state_of.second other (is_so c.if-not-takes_place-2.ensures) in
    order_same model c.args.decisions.now (shown (named_content (snapshot_of c.args.store.now))) c.args.one.now c.args.other.now (there, here) (isnt c.if-are_ordered.ensures)
    (λ needs. elim needs [ inl idle ↦ idle first | inr idle ↦ idle second ]) (is_so c.if-is_same_token.ensures)

pub returns : goal.returns
returns c = λ model told.
    let one = subst (λ (past : TokenPast). IsKeptAs (tokens_now past) c.args.one.now c.in-Some.first) c.tokens.ensures c.in-Some.ensures in
    let other = subst (λ (past : TokenPast). IsKeptAs (tokens_now past) c.args.other.now c.in-Some-state_of.second) c.tokens-2.ensures c.in-Some-state_of.ensures in
    let there = kept_there model c.args.decisions.now (snapshot_of c.args.store.now) told c.args.one.now c.in-Some.first one in
    let here = kept_there model c.args.decisions.now (snapshot_of c.args.store.now) told c.args.other.now c.in-Some-state_of.second other in
    let first = kept_active model c.args.decisions.now (snapshot_of c.args.store.now) told c.args.one.now c.in-Some.first one (is_so c.if-not-takes_place.ensures) in
    let second = kept_active model c.args.decisions.now (snapshot_of c.args.store.now) told c.args.other.now c.in-Some-state_of.second other (is_so c.if-not-takes_place-2.ensures) in
    order_free model c.args.decisions.now (shown (named_content (snapshot_of c.args.store.now))) c.args.one.now c.args.other.now (there, here) (isnt c.if-are_ordered.ensures)
    (λ needs. elim needs [ inl idle ↦ idle first | inr idle ↦ idle second ]) (isnt c.if-is_same_token.ensures)
