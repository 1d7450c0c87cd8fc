use Rattle.std.proofs.Common.{sym, subst}
use Rattle.std.specs.Prelude.{Contains}
use Rattle.model_core.specs.declared.view.TokenState.TheVariants.{Merged}
use Rattle.token_store.specs.Tokens.{TokenPast, tokens_now, token_names, IsNamedAt}
use Rattle.db_posting.specs.Origins.{content_now}
use Rattle.db_posting.proofs.Storing.{marks_both}
use Rattle.db_decide.specs.RootItems.{SaysOfRejectable, PostsSaid}
use Rattle.db_decide.proofs.Merged.{merge_started, merged_up, merge_alike, merge_can, merge_within}
use Rattle.db_decide.proofs.Placing.{place_below}
use Rattle.db_decide.proofs.Stating.{stated_below}
use Rattle.db_decide.proofs.merge.merge.Goals as goal

pub place_of-place-requires : goal.place_of-place-requires
place_of-place-requires c =
    subst (λ (past : TokenPast). Contains (token_names (tokens_now past)) c.args.token.now) (sym c.tokens.ensures) c.requires.may.1.known.0

pub place_of-into-requires : goal.place_of-into-requires
place_of-into-requires c =
    subst (λ (past : TokenPast). Contains (token_names (tokens_now past)) c.args.target.now) (sym c.tokens-2.ensures) c.requires.may.1.known.1

pub set_state-requires : goal.set_state-requires
set_state-requires c =
    place_below c.args.store.now.past c.place_of-place.result c.args.token.now
    (subst (λ (past : TokenPast). IsNamedAt (tokens_now past) c.place_of-place.result c.args.token.now) c.tokens.ensures c.place_of-place.ensures)

pub post_merged-requires-clause-preds : goal.post_merged-requires-clause-preds
post_merged-requires-clause-preds c =
    let named = subst (λ (past : TokenPast). IsNamedAt (tokens_now past) c.place_of-place.result c.args.token.now) c.tokens.ensures c.place_of-place.ensures in
    let target = subst (λ (past : TokenPast). IsNamedAt (tokens_now past) c.place_of-into.result c.args.target.now) c.tokens-2.ensures c.place_of-into.ensures in
    (merge_started c.args.model.now c.requires.may.0 c.args.token.now c.args.target.now c.args.store.now c.is_sound.ensures c.place_of-place.result c.place_of-into.result named target c.requires.may.1
    c.set_state.new.self c.in_ok-set_state.ensures.ok).preds

pub post_merged-requires-clause-content : goal.post_merged-requires-clause-content
post_merged-requires-clause-content c =
    let named = subst (λ (past : TokenPast). IsNamedAt (tokens_now past) c.place_of-place.result c.args.token.now) c.tokens.ensures c.place_of-place.ensures in
    let target = subst (λ (past : TokenPast). IsNamedAt (tokens_now past) c.place_of-into.result c.args.target.now) c.tokens-2.ensures c.place_of-into.ensures in
    (merge_started c.args.model.now c.requires.may.0 c.args.token.now c.args.target.now c.args.store.now c.is_sound.ensures c.place_of-place.result c.place_of-into.result named target c.requires.may.1
    c.set_state.new.self c.in_ok-set_state.ensures.ok).justified.is_content

pub post_merged-requires-clause-one : goal.post_merged-requires-clause-one
post_merged-requires-clause-one c =
    let named = subst (λ (past : TokenPast). IsNamedAt (tokens_now past) c.place_of-place.result c.args.token.now) c.tokens.ensures c.place_of-place.ensures in
    stated_below c.args.store.now c.set_state.new.self c.place_of-place.result (Merged c.place_of-into.result) c.in_ok-set_state.ensures.ok c.place_of-place.result
    (place_below c.args.store.now.past c.place_of-place.result c.args.token.now named)

pub post_merged-requires-clause-other : goal.post_merged-requires-clause-other
post_merged-requires-clause-other c =
    let target = subst (λ (past : TokenPast). IsNamedAt (tokens_now past) c.place_of-into.result c.args.target.now) c.tokens-2.ensures c.place_of-into.ensures in
    stated_below c.args.store.now c.set_state.new.self c.place_of-place.result (Merged c.place_of-into.result) c.in_ok-set_state.ensures.ok c.place_of-into.result
    (place_below c.args.store.now.past c.place_of-into.result c.args.target.now target)

pub post_merged-requires-clause-alike : goal.post_merged-requires-clause-alike
post_merged-requires-clause-alike c =
    let named = subst (λ (past : TokenPast). IsNamedAt (tokens_now past) c.place_of-place.result c.args.token.now) c.tokens.ensures c.place_of-place.ensures in
    let target = subst (λ (past : TokenPast). IsNamedAt (tokens_now past) c.place_of-into.result c.args.target.now) c.tokens-2.ensures c.place_of-into.ensures in
    merge_alike c.args.model.now c.requires.may.0 c.args.token.now c.args.target.now c.args.store.now c.is_sound.ensures c.place_of-place.result c.place_of-into.result named target c.requires.may.1
    c.set_state.new.self c.in_ok-set_state.ensures.ok

pub post_begun-requires-clause-within : goal.post_begun-requires-clause-within
post_begun-requires-clause-within c =
    merge_within c.args.store.now c.set_state.new.self c.post_merged.new.store c.place_of-place.result (Merged c.place_of-into.result) c.in_ok-set_state.ensures.ok
    c.in_ok-post_merged.ensures.only c.block_count-unfolded.result c.block_count-unfolded.ensures

pub post_begun-requires-clause-can : goal.post_begun-requires-clause-can
post_begun-requires-clause-can c =
    let named = subst (λ (past : TokenPast). IsNamedAt (tokens_now past) c.place_of-place.result c.args.token.now) c.tokens.ensures c.place_of-place.ensures in
    let target = subst (λ (past : TokenPast). IsNamedAt (tokens_now past) c.place_of-into.result c.args.target.now) c.tokens-2.ensures c.place_of-into.ensures in
    merge_can c.args.model.now c.requires.may.0 c.args.token.now c.args.target.now c.args.store.now c.is_sound.ensures c.place_of-place.result c.place_of-into.result named target c.requires.may.1
    c.requires.lawful c.requires.tables c.set_state.new.self c.post_merged.new.store c.in_ok-set_state.ensures.ok c.in_ok-post_merged.ensures.only c.block_count-unfolded.result
    c.block_count-unfolded.ensures

pub returns-clause-takes : goal.returns-clause-takes
returns-clause-takes c = λ decisions due may after.
    let named = subst (λ (past : TokenPast). IsNamedAt (tokens_now past) c.place_of-place.result c.args.token.now) c.tokens.ensures c.place_of-place.ensures in
    let target = subst (λ (past : TokenPast). IsNamedAt (tokens_now past) c.place_of-into.result c.args.target.now) c.tokens-2.ensures c.place_of-into.ensures in
    let says = subst (λ n. PostsSaid c.args.model.now (SaysOfRejectable c.args.model.now c.args.token.now (content_now c.post_merged.new.store) n) c.post_merged.new.store c.post_begun.new.store)
    c.block_count-unfolded.ensures c.in_ok-post_begun.ensures.posted in
    merged_up c.args.model.now decisions c.args.token.now c.args.target.now c.args.store.now c.is_sound.ensures c.place_of-place.result c.place_of-into.result named target may
    c.requires.lawful c.set_state.new.self c.post_merged.new.store c.post_begun.new.store c.in_ok-set_state.ensures.ok c.in_ok-post_merged.ensures.only c.in_ok-post_merged.ensures.posted
    c.in_ok-post_begun.ensures.only says due after

pub returns-in_err-post_merged-clause-marks : goal.returns-in_err-post_merged-clause-marks
returns-in_err-post_merged-clause-marks c =
    marks_both c.args.store.now c.set_state.new.self c.post_merged.new.store c.in_ok-set_state.ensures.marks c.in_err-post_merged.ensures.marks

pub returns-in_err-post_begun-clause-marks : goal.returns-in_err-post_begun-clause-marks
returns-in_err-post_begun-clause-marks c =
    marks_both c.args.store.now c.set_state.new.self c.post_begun.new.store c.in_ok-set_state.ensures.marks
    (marks_both c.set_state.new.self c.post_merged.new.store c.post_begun.new.store c.in_ok-post_merged.ensures.marks c.in_err-post_begun.ensures.marks)

pub returns-clause-marks : goal.returns-clause-marks
returns-clause-marks c =
    marks_both c.args.store.now c.set_state.new.self c.post_begun.new.store c.in_ok-set_state.ensures.marks
    (marks_both c.set_state.new.self c.post_merged.new.store c.post_begun.new.store c.in_ok-post_merged.ensures.marks c.in_ok-post_begun.ensures.marks)
