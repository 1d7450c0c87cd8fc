use Rattle.std.proofs.Common.{Some, None, sym, subst}
use Rattle.std.specs.Prelude.{Contains}
use Rattle.model_core.specs.Content.{shown}
use Rattle.model_core.specs.declared.decision.Decision.{Decision}
use Rattle.model_core.specs.declared.decision.Decision.TheVariants.{Relate}
use Rattle.model_core.specs.declared.refusal.Refusal.TheVariants as reasons
use Rattle.db_store.specs.Stores.{snapshot_of, named_content}
use Rattle.token_store.specs.Tokens.{TokenPast, tokens_now, token_names}
use Rattle.db_refusals.specs.Reasons.{IsFirstReason}
use Rattle.db_refusals.proofs.First.{unknown_first, decided_first, relate_inactive, relate_same, relate_free}
use Rattle.db_refusals.proofs.Told.{isnt, is_so}
use Rattle.db_refusals.proofs.judge.against_relate.Goals as goal

pub returns-then-not-has_tokens : goal.returns-then-not-has_tokens
returns-then-not-has_tokens c =
    subst (λ (decision : Decision). IsFirstReason c.args.model.now c.args.decisions.now (shown (named_content (snapshot_of c.args.store.now))) decision (Some reasons.Unknown)) (sym c.requires.is.1)
    (unknown_first c.args.model.now c.args.decisions.now (shown (named_content (snapshot_of c.args.store.now))) (Relate c.requires.is.0 c.args.one.now c.args.other.now) (λ known. isnt c.if-not-has_tokens.ensures
    (subst (λ (past : TokenPast). Contains (token_names (tokens_now past)) c.args.one.now × Contains (token_names (tokens_now past)) c.args.other.now) (sym c.tokens.ensures) known)))

pub returns-then-stands : goal.returns-then-stands
returns-then-stands c =
    subst (λ (decision : Decision). IsFirstReason c.args.model.now c.args.decisions.now (shown (named_content (snapshot_of c.args.store.now))) decision (Some reasons.Decided)) (sym c.requires.is.1)
    (decided_first c.args.model.now c.args.decisions.now (shown (named_content (snapshot_of c.args.store.now))) (Relate c.requires.is.0 c.args.one.now c.args.other.now)
    (subst (λ (past : TokenPast). Contains (token_names (tokens_now past)) c.args.one.now × Contains (token_names (tokens_now past)) c.args.other.now) c.tokens.ensures (is_so c.if-not-has_tokens.ensures))
    (λ h. h) (subst (Contains c.args.decisions.now) c.requires.is.1 (is_so c.if-stands.ensures)))

pub returns-then-not-tokens_count : goal.returns-then-not-tokens_count
returns-then-not-tokens_count c =
    subst (λ (decision : Decision). IsFirstReason c.args.model.now c.args.decisions.now (shown (named_content (snapshot_of c.args.store.now))) decision (Some reasons.NotActive)) (sym c.requires.is.1)
    (relate_inactive c.args.model.now c.args.decisions.now (shown (named_content (snapshot_of c.args.store.now))) c.requires.is.0 c.args.one.now c.args.other.now
    (subst (λ (past : TokenPast). Contains (token_names (tokens_now past)) c.args.one.now × Contains (token_names (tokens_now past)) c.args.other.now) c.tokens.ensures (is_so c.if-not-has_tokens.ensures))
    (λ already. isnt c.if-stands.ensures (subst (Contains c.args.decisions.now) (sym c.requires.is.1) already))
    (isnt (c.if-not-tokens_count.ensures c.args.decisions.now (snapshot_of c.args.store.now) (λ i. tokens_now (sym c.tokens-2.ensures i)) c.requires.told)))

pub returns-then-is_same_token : goal.returns-then-is_same_token
returns-then-is_same_token c =
    subst (λ (decision : Decision). IsFirstReason c.args.model.now c.args.decisions.now (shown (named_content (snapshot_of c.args.store.now))) decision (Some reasons.SameToken)) (sym c.requires.is.1)
    (relate_same c.args.model.now c.args.decisions.now (shown (named_content (snapshot_of c.args.store.now))) c.requires.is.0 c.args.one.now c.args.other.now
    (subst (λ (past : TokenPast). Contains (token_names (tokens_now past)) c.args.one.now × Contains (token_names (tokens_now past)) c.args.other.now) c.tokens.ensures (is_so c.if-not-has_tokens.ensures))
    (λ already. isnt c.if-stands.ensures (subst (Contains c.args.decisions.now) (sym c.requires.is.1) already))
    (λ needs. needs (is_so (c.if-not-tokens_count.ensures c.args.decisions.now (snapshot_of c.args.store.now) (λ i. tokens_now (sym c.tokens-2.ensures i)) c.requires.told))) (is_so c.if-is_same_token.ensures))

pub returns : goal.returns
returns c =
    subst (λ (decision : Decision). IsFirstReason c.args.model.now c.args.decisions.now (shown (named_content (snapshot_of c.args.store.now))) decision None) (sym c.requires.is.1)
    (relate_free c.args.model.now c.args.decisions.now (shown (named_content (snapshot_of c.args.store.now))) c.requires.is.0 c.args.one.now c.args.other.now
    (subst (λ (past : TokenPast). Contains (token_names (tokens_now past)) c.args.one.now × Contains (token_names (tokens_now past)) c.args.other.now) c.tokens.ensures (is_so c.if-not-has_tokens.ensures))
    (λ already. isnt c.if-stands.ensures (subst (Contains c.args.decisions.now) (sym c.requires.is.1) already))
    (λ needs. needs (is_so (c.if-not-tokens_count.ensures c.args.decisions.now (snapshot_of c.args.store.now) (λ i. tokens_now (sym c.tokens-2.ensures i)) c.requires.told))) (isnt c.if-is_same_token.ensures))
