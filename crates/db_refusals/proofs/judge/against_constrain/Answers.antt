use Rattle.std.proofs.Common.{Some, None, sym, subst}
use Rattle.std.specs.Prelude.{Contains}
use Rattle.model_core.specs.Content.{shown}
use Rattle.model_core.specs.declared.decision.Decision.{Decision}
use Rattle.model_core.specs.declared.decision.Decision.TheVariants.{Constrain}
use Rattle.model_core.specs.declared.refusal.Refusal.TheVariants as reasons
use Rattle.db_store.specs.Stores.{snapshot_of, named_content}
use Rattle.token_store.specs.Tokens.{tokens_now}
use Rattle.db_refusals.specs.Reasons.{IsFirstReason}
use Rattle.db_refusals.proofs.First.{unknown_first, wrong_type_first, decided_first, constrain_outside, constrain_inactive, constrain_free}
use Rattle.db_refusals.proofs.Told.{isnt, is_so, arguments_had}
use Rattle.db_refusals.proofs.judge.against_constrain.Goals as goal

pub takes-requires : goal.takes-requires
takes-requires c =
    arguments_had c.args.model.now c.args.decisions.now (snapshot_of c.args.store.now) c.requires.told c.args.arguments.now (is_so c.if-not-has_arguments.ensures)

pub takes-requires-2 : goal.takes-requires-2
takes-requires-2 c =
    arguments_had c.args.model.now c.args.decisions.now (snapshot_of c.args.store.now) c.requires.told c.args.arguments.now (is_so c.if-not-has_arguments.ensures)

pub returns-then-not-has_arguments : goal.returns-then-not-has_arguments
returns-then-not-has_arguments c =
    subst (λ (decision : Decision). IsFirstReason c.args.model.now c.args.decisions.now (shown (named_content (snapshot_of c.args.store.now))) decision (Some reasons.Unknown)) (sym c.requires.is)
    (unknown_first c.args.model.now c.args.decisions.now (shown (named_content (snapshot_of c.args.store.now))) (Constrain c.args.kind c.args.arguments.now) (isnt c.if-not-has_arguments.ensures))

pub returns-then-not-takes : goal.returns-then-not-takes
returns-then-not-takes c =
    subst (λ (decision : Decision). IsFirstReason c.args.model.now c.args.decisions.now (shown (named_content (snapshot_of c.args.store.now))) decision (Some reasons.WrongType)) (sym c.requires.is)
    (wrong_type_first c.args.model.now c.args.decisions.now (shown (named_content (snapshot_of c.args.store.now))) (Constrain c.args.kind c.args.arguments.now) (is_so c.if-not-has_arguments.ensures) (isnt c.if-not-takes.ensures))

pub returns-then-stands : goal.returns-then-stands
returns-then-stands c =
    subst (λ (decision : Decision). IsFirstReason c.args.model.now c.args.decisions.now (shown (named_content (snapshot_of c.args.store.now))) decision (Some reasons.Decided)) (sym c.requires.is)
    (decided_first c.args.model.now c.args.decisions.now (shown (named_content (snapshot_of c.args.store.now))) (Constrain c.args.kind c.args.arguments.now) (is_so c.if-not-has_arguments.ensures) (λ wrong. wrong (is_so c.if-not-takes.ensures))
    (subst (Contains c.args.decisions.now) c.requires.is (is_so c.if-stands.ensures)))

pub returns-then-not-takes-2 : goal.returns-then-not-takes-2
returns-then-not-takes-2 c =
    subst (λ (decision : Decision). IsFirstReason c.args.model.now c.args.decisions.now (shown (named_content (snapshot_of c.args.store.now))) decision (Some reasons.NotInDomain)) (sym c.requires.is)
    (constrain_outside c.args.model.now c.args.decisions.now (shown (named_content (snapshot_of c.args.store.now))) c.args.kind c.args.arguments.now (is_so c.if-not-has_arguments.ensures) (is_so c.if-not-takes.ensures)
    (λ already. isnt c.if-stands.ensures (subst (Contains c.args.decisions.now) (sym c.requires.is) already)) (isnt c.if-not-takes-2.ensures))

pub returns-then-not-arguments_count : goal.returns-then-not-arguments_count
returns-then-not-arguments_count c =
    subst (λ (decision : Decision). IsFirstReason c.args.model.now c.args.decisions.now (shown (named_content (snapshot_of c.args.store.now))) decision (Some reasons.NotActive)) (sym c.requires.is)
    (constrain_inactive c.args.model.now c.args.decisions.now (shown (named_content (snapshot_of c.args.store.now))) c.args.kind c.args.arguments.now (is_so c.if-not-has_arguments.ensures) (is_so c.if-not-takes.ensures)
    (λ already. isnt c.if-stands.ensures (subst (Contains c.args.decisions.now) (sym c.requires.is) already)) (is_so c.if-not-takes-2.ensures)
    (isnt (c.if-not-arguments_count.ensures c.args.decisions.now (snapshot_of c.args.store.now) (λ i. tokens_now (sym c.tokens.ensures i)) c.requires.told)))

pub returns : goal.returns
returns c =
    subst (λ (decision : Decision). IsFirstReason c.args.model.now c.args.decisions.now (shown (named_content (snapshot_of c.args.store.now))) decision None) (sym c.requires.is)
    (constrain_free c.args.model.now c.args.decisions.now (shown (named_content (snapshot_of c.args.store.now))) c.args.kind c.args.arguments.now (is_so c.if-not-has_arguments.ensures) (is_so c.if-not-takes.ensures)
    (λ already. isnt c.if-stands.ensures (subst (Contains c.args.decisions.now) (sym c.requires.is) already)) (is_so c.if-not-takes-2.ensures)
    (λ needs. needs (is_so (c.if-not-arguments_count.ensures c.args.decisions.now (snapshot_of c.args.store.now) (λ i. tokens_now (sym c.tokens.ensures i)) c.requires.told))))
