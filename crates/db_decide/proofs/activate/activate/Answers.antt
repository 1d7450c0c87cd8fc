use Rattle.std.proofs.Common.{sym, subst}
use Rattle.std.specs.Prelude.{Contains}
use Rattle.std.proofs.lemmas.Result.{err_from_is_err_and}
use Rattle.model_core.specs.declared.view.TokenState.TheVariants.{Active}
use Rattle.token_store.specs.Tokens.{TokenPast, tokens_now, token_names, IsNamedAt}
use Rattle.db_posting.specs.Origins.{content_now}
use Rattle.db_posting.proofs.Storing.{marks_both}
use Rattle.db_decide.specs.RootItems.{SaysOfRejectable, PostsSaid}
use Rattle.db_decide.proofs.Activated.{activation_started, activation_can, activation_within, activated_up, activation_fails}
use Rattle.db_decide.proofs.Placing.{place_below}
use Rattle.db_decide.proofs.Stating.{stated_below}
use Rattle.db_decide.proofs.activate.activate.Goals as goal

pub place_of-place-requires : goal.place_of-place-requires
place_of-place-requires c =
    subst (λ (past : TokenPast). Contains (token_names (tokens_now past)) c.args.token.now) (sym c.tokens.ensures) c.requires.may.1.known

pub set_state-requires : goal.set_state-requires
set_state-requires c =
    place_below c.args.store.now.past c.place_of-place.result c.args.token.now
    (subst (λ (past : TokenPast). IsNamedAt (tokens_now past) c.place_of-place.result c.args.token.now) c.tokens.ensures c.place_of-place.ensures)

pub open_all_rules-requires-clause-preds : goal.open_all_rules-requires-clause-preds
open_all_rules-requires-clause-preds c =
    let named = subst (λ (past : TokenPast). IsNamedAt (tokens_now past) c.place_of-place.result c.args.token.now) c.tokens.ensures c.place_of-place.ensures in
    (activation_started c.args.model.now c.requires.may.0 c.args.token.now c.args.store.now c.is_sound.ensures c.place_of-place.result named c.requires.may.1
    c.set_state.new.self c.in_ok-set_state.ensures.ok).preds

pub open_all_rules-requires-clause-content : goal.open_all_rules-requires-clause-content
open_all_rules-requires-clause-content c =
    let named = subst (λ (past : TokenPast). IsNamedAt (tokens_now past) c.place_of-place.result c.args.token.now) c.tokens.ensures c.place_of-place.ensures in
    (activation_started c.args.model.now c.requires.may.0 c.args.token.now c.args.store.now c.is_sound.ensures c.place_of-place.result named c.requires.may.1
    c.set_state.new.self c.in_ok-set_state.ensures.ok).justified.is_content

pub open_all_rules-requires-clause-token : goal.open_all_rules-requires-clause-token
open_all_rules-requires-clause-token c =
    let named = subst (λ (past : TokenPast). IsNamedAt (tokens_now past) c.place_of-place.result c.args.token.now) c.tokens.ensures c.place_of-place.ensures in
    stated_below c.args.store.now c.set_state.new.self c.place_of-place.result Active c.in_ok-set_state.ensures.ok c.place_of-place.result
    (place_below c.args.store.now.past c.place_of-place.result c.args.token.now named)

pub post_begun-requires-clause-within : goal.post_begun-requires-clause-within
post_begun-requires-clause-within c =
    let named = subst (λ (past : TokenPast). IsNamedAt (tokens_now past) c.place_of-place.result c.args.token.now) c.tokens.ensures c.place_of-place.ensures in
    let opened = c.in_ok-open_all_rules.ensures in
    activation_within c.args.model.now c.requires.may.0 c.args.token.now c.args.store.now c.is_sound.ensures c.place_of-place.result named c.requires.may.1
    c.set_state.new.self c.in_ok-set_state.ensures.ok c.open_all_rules.new.store opened.underway opened.past opened.adds.blocks c.block_count-unfolded.result c.block_count-unfolded.ensures

pub post_begun-requires-clause-can : goal.post_begun-requires-clause-can
post_begun-requires-clause-can c =
    let named = subst (λ (past : TokenPast). IsNamedAt (tokens_now past) c.place_of-place.result c.args.token.now) c.tokens.ensures c.place_of-place.ensures in
    let opened = c.in_ok-open_all_rules.ensures in
    activation_can c.args.model.now c.requires.may.0 c.args.token.now c.args.store.now c.is_sound.ensures c.place_of-place.result named c.requires.may.1
    c.set_state.new.self c.in_ok-set_state.ensures.ok c.open_all_rules.new.store opened.underway opened.past opened.adds.blocks c.requires.lawful c.requires.tables opened.adds.tables
    c.block_count-unfolded.result c.block_count-unfolded.ensures

pub returns-in_err-open_all_rules-clause-takes : goal.returns-in_err-open_all_rules-clause-takes
returns-in_err-open_all_rules-clause-takes c =
    let named = subst (λ (past : TokenPast). IsNamedAt (tokens_now past) c.place_of-place.result c.args.token.now) c.tokens.ensures c.place_of-place.ensures in
    let p = err_from_is_err_and c.from_residual-in_err-open_all_rules.result c.from_residual-in_err-open_all_rules.ensures.1 in
    rw (p.1, p.2)
    (activation_fails c.args.model.now c.args.token.now c.args.store.now c.is_sound.ensures c.place_of-place.result named c.set_state.new.self c.open_all_rules.new.store c.open_all_rules.new.store
    c.in_ok-set_state.ensures.ok c.in_err-open_all_rules.field-0.0 c.in_err-open_all_rules.ensures.underway)

pub returns-clause-takes : goal.returns-clause-takes
returns-clause-takes c = λ decisions due may after.
    let named = subst (λ (past : TokenPast). IsNamedAt (tokens_now past) c.place_of-place.result c.args.token.now) c.tokens.ensures c.place_of-place.ensures in
    let opened = c.in_ok-open_all_rules.ensures in
    let says = subst (λ n. PostsSaid c.args.model.now (SaysOfRejectable c.args.model.now c.args.token.now (content_now c.open_all_rules.new.store) n) c.open_all_rules.new.store c.post_begun.new.store)
    c.block_count-unfolded.ensures c.in_ok-post_begun.ensures.posted in
    activated_up c.args.model.now decisions c.args.token.now c.args.store.now c.is_sound.ensures c.place_of-place.result named may
    c.set_state.new.self c.in_ok-set_state.ensures.ok c.open_all_rules.new.store opened.underway opened.past opened.adds.blocks opened.open c.requires.lawful
    c.post_begun.new.store c.in_ok-post_begun.ensures.only says due after

pub returns-in_err-open_all_rules-clause-marks : goal.returns-in_err-open_all_rules-clause-marks
returns-in_err-open_all_rules-clause-marks c =
    marks_both c.args.store.now c.set_state.new.self c.open_all_rules.new.store c.in_ok-set_state.ensures.marks c.in_err-open_all_rules.ensures.marks

pub returns-in_err-post_begun-clause-marks : goal.returns-in_err-post_begun-clause-marks
returns-in_err-post_begun-clause-marks c =
    marks_both c.args.store.now c.set_state.new.self c.post_begun.new.store c.in_ok-set_state.ensures.marks
    (marks_both c.set_state.new.self c.open_all_rules.new.store c.post_begun.new.store c.in_ok-open_all_rules.ensures.marks c.in_err-post_begun.ensures.marks)

pub returns-clause-marks : goal.returns-clause-marks
returns-clause-marks c =
    marks_both c.args.store.now c.set_state.new.self c.post_begun.new.store c.in_ok-set_state.ensures.marks
    (marks_both c.set_state.new.self c.open_all_rules.new.store c.post_begun.new.store c.in_ok-open_all_rules.ensures.marks c.in_ok-post_begun.ensures.marks)
