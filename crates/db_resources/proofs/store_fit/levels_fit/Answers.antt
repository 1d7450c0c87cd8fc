use Rattle.std.proofs.Common.{◌≡◌, true, false, sym, subst}
use Rattle.std.specs.Prelude.{IsTrue, ◌↔◌}
use Rattle.db_resources.specs.Actors.{IsSoundView}
use Rattle.db_resources.specs.Fits.{FitLevels}
use Rattle.db_resources.proofs.Fitting.{none_reservoir}
use Rattle.db_refusals.specs.Seeing.{Seen, seen_state}
use Rattle.token_store.specs.Tokens.{TokenPast, tokens_now}
use Rattle.db_refusals.proofs.Told.{isnt}
use Rattle.db_resources.specs.Completeness.{AreAllDecided}
use Rattle.db_resources.proofs.FittingStore.{sound, levels_undecided, levels_hold, levels_open}
use Rattle.db_resources.proofs.Completing.{blocks_there}
use Rattle.db_resources.proofs.store_fit.levels_fit.Goals as goal

pub reservoirs_fit-requires-clause-sound : goal.reservoirs_fit-requires-clause-sound
reservoirs_fit-requires-clause-sound c =
    subst (λ (seen : Seen). IsSoundView seen.model seen.decisions (seen_state seen.stored)) (sym c.new.ensures)
    (sound c.args.model.now c.args.decisions.now c.args.store.now c.is_sound.ensures
    (c.settled_lists_decide_once.ensures c.args.model.now c.args.decisions.now c.requires.settled) c.requires.rest c.requires.lawful)

pub are_all_certain-requires-clause-there : goal.are_all_certain-requires-clause-there
are_all_certain-requires-clause-there c =
    blocks_there c.args.model.now c.args.decisions.now c.args.store.now c.is_sound.ensures
    (c.settled_lists_decide_once.ensures c.args.model.now c.args.decisions.now c.requires.settled) c.requires.rest

pub returns-then-not-has_reservoir : goal.returns-then-not-has_reservoir
returns-then-not-has_reservoir c =
    levels_hold c.args.model.now c.args.decisions.now c.args.store.now c.is_sound.ensures
    (c.settled_lists_decide_once.ensures c.args.model.now c.args.decisions.now c.requires.settled) c.requires.rest
    (none_reservoir c.args.model.now c.args.decisions.now (seen_state c.args.store.now) c.if-not-has_reservoir.ensures)

pub returns-then-not-are_all_decided : goal.returns-then-not-are_all_decided
returns-then-not-are_all_decided c =
    levels_undecided c.args.model.now c.args.decisions.now c.args.store.now c.is_sound.ensures
    (c.settled_lists_decide_once.ensures c.args.model.now c.args.decisions.now c.requires.settled) c.requires.rest
    (subst (λ (past : TokenPast). AreAllDecided (tokens_now past) → ⊥) c.tokens.ensures c.if-not-are_all_decided.ensures)

pub returns-then-branch : goal.returns-then-branch
returns-then-branch c =
    let fits : c.in_ok-reservoirs_fit.field-0 ≡ true = c.if-branch.true in
    let told = subst (λ (seen : Seen). IsTrue c.in_ok-reservoirs_fit.field-0 ↔ FitLevels seen.model seen.decisions (seen_state seen.stored)) c.new.ensures c.in_ok-reservoirs_fit.ensures in
    levels_hold c.args.model.now c.args.decisions.now c.args.store.now c.is_sound.ensures
    (c.settled_lists_decide_once.ensures c.args.model.now c.args.decisions.now c.requires.settled) c.requires.rest (told.0 fits)

pub returns : goal.returns
returns c =
    let misfits : c.in_ok-reservoirs_fit.field-0 ≡ false = c.if-branch.false in
    let levels = FitLevels c.args.model.now c.args.decisions.now (seen_state c.args.store.now) in
    let told = subst (λ (seen : Seen). IsTrue c.in_ok-reservoirs_fit.field-0 ↔ FitLevels seen.model seen.decisions (seen_state seen.stored)) c.new.ensures c.in_ok-reservoirs_fit.ensures in
    levels_open c.args.model.now c.args.decisions.now c.args.store.now c.is_sound.ensures
    (c.settled_lists_decide_once.ensures c.args.model.now c.args.decisions.now c.requires.settled) c.requires.rest c.in_ok-certain.certain
    (subst (λ (past : TokenPast). AreAllDecided (tokens_now past)) c.tokens.ensures c.if-not-are_all_decided.ensures)
    (isnt (subst (λ answer. IsTrue answer ↔ levels) misfits told)) c.in_ok-certain.ensures
