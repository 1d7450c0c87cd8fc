-- One token more.
use Rattle.std.proofs.Common.{Err, sym, subst}
use Rattle.std.specs.Prelude.{All, Contains}
use Rattle.std.proofs.lemmas.List.{take_all}
use Rattle.std.proofs.lemmas.Result.{err_from_is_err_and}
use Rattle.eu_name.specs.declared.name.TokenName.{TokenName}
use Rattle.model_core.specs.declared.rule.Slot.{Slot}
use Rattle.model_core.specs.Tokens.{HasToken}
use Rattle.token_store.specs.Tokens.{tokens_now, token_names}
use Rattle.db_posting.specs.Origins.{content_now}
use Rattle.db_posting.proofs.Storing.{marks_both}
use Rattle.db_opening.specs.Arriving.{AskForToken}
use Rattle.db_posting.specs.Underway.{StaysUnderway}
use Rattle.db_fixpoint.proofs.Asking.{brought_none, brought_more, bring_through}
use Rattle.db_fixpoint.proofs.slots.bring_tokens.Goals as goal

pub loop-name-init : goal.loop-name-init
loop-name-init c = brought_none c.args.model.now c.args.names.now c.args.store.now c.requires.preds

pub bring_token-requires-clause-there : goal.bring_token-requires-clause-there
bring_token-requires-clause-there c =
    subst (λ (token : TokenName). (slot : Slot) × HasToken c.args.model.now token slot) (sym c.name-item.is)
    (c.requires.there c.loop-name.name-index c.name-item.result c.loop-name-test.true)

pub returns-in_err-bring_token-clause-underway : goal.returns-in_err-bring_token-clause-underway
returns-in_err-bring_token-clause-underway c =
    let p = err_from_is_err_and c.from_residual.result c.from_residual.ensures.1 in
    rw (p.1, p.2)
    (bring_through c.args.model.now c.args.names.now c.loop-name.name-index c.name-item.result c.loop-name-test.true c.args.store.now c.loop-name.store c.bring_token.new.store c.is_sound.ensures
    c.is_sound-in-loop-name.ensures c.loop-name.invariant (Err c.in_err-bring_token.field-0.0)
    (subst (λ (token : TokenName). StaysUnderway c.args.model.now (AskForToken c.args.model.now (content_now c.loop-name.store) token) c.loop-name.store (Err c.in_err-bring_token.field-0.0) c.bring_token.new.store)
    c.name-item.is c.in_err-bring_token.ensures.underway))

pub loop-name-preserved : goal.loop-name-preserved
loop-name-preserved c =
    let model = c.args.model.now in
    let step = c.in_ok-bring_token in
    let new = c.bring_token.new.store in
    brought_more model c.args.names.now c.loop-name.name-index c.name-item.result c.loop-name-test.true c.args.store.now c.loop-name.store new c.is_sound.ensures
    c.is_sound-in-loop-name.ensures c.loop-name.invariant
    (λ followed decisions unfolded due under asked. step.ensures.underway followed decisions unfolded due under
    (subst (λ (token : TokenName). AskForToken model (content_now c.loop-name.store) token decisions) (sym c.name-item.is) asked))
    (subst (Contains (token_names (tokens_now new.past))) c.name-item.is step.ensures.there) step.ensures.adds step.ensures.preds step.ensures.marks

pub returns-clause-there : goal.returns-clause-there
returns-clause-there c =
    subst (All (Contains (token_names (tokens_now c.loop-name.store.past)))) (take_all c.loop-name.name-index c.args.names.now c.loop-name-test.false) c.loop-name.invariant.there

pub returns-in_err-bring_token-clause-marks : goal.returns-in_err-bring_token-clause-marks
returns-in_err-bring_token-clause-marks c =
    marks_both c.args.store.now c.loop-name.store c.bring_token.new.store c.loop-name.invariant.marks c.in_err-bring_token.ensures.marks
