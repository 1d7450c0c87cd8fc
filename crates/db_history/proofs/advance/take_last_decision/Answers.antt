use Rattle.std.proofs.Common.{Err, length, ◌-◌, sym, subst}
use Rattle.std.specs.Prelude.{MatchBool}
use Rattle.std.proofs.lemmas.Result.{IfOk-weaker}
use Rattle.constraint_net.specs.declared.NetFault.{NetFault}
use Rattle.plan_defs.specs.Closure.{IsLeast, IsCollapsed}
use Rattle.plan_values.proofs.Matching.{read_item}
use Rattle.db_store.specs.Stores.{snapshot_of}
use Rattle.db_store.proofs.Following.{goes_on_same}
use Rattle.db_refusals.specs.Seeing.{seen_state}
use Rattle.db_history.specs.Advancing.{AdvancesBy, LeavesLeast, but_last}
use Rattle.db_history.proofs.Resting.{last_within, ends_with, follows, rests_for_all, nothing_for_all, fit_least}
use Rattle.db_history.proofs.advance.take_last_decision.Goals as goal

pub advance-requires-clause-follows : goal.advance-requires-clause-follows
advance-requires-clause-follows c =
    let decisions = c.args.decisions.now in
    let decision = c.index-decisions-decisions.result in
    let at = read_item decisions (length decisions - 1) decision (last_within c.args.model.now decisions c.requires.admissible) c.index-decisions-decisions.is in
    (but_last decisions, follows c.args.model.now decisions c.requires.admissible decision at c.args.store.now c.is_sound.ensures c.requires.least c.requires.settled c.requires.lawful)

pub resources_fit_since-requires-clause-rest : goal.resources_fit_since-requires-clause-rest
resources_fit_since-requires-clause-rest c =
    let decisions = c.args.decisions.now in
    let decision = c.index-decisions-decisions.result in
    let at = read_item decisions (length decisions - 1) decision (last_within c.args.model.now decisions c.requires.admissible) c.index-decisions-decisions.is in
    (rests_for_all c.args.model.now decisions c.requires.admissible decision at c.args.store.now c.is_sound.ensures c.requires.least c.requires.settled c.requires.lawful c.advance.new.store c.in-Ok.ensures.advances).0

pub resources_fit_since-requires-clause-fitted : goal.resources_fit_since-requires-clause-fitted
resources_fit_since-requires-clause-fitted c =
    let decisions = c.args.decisions.now in
    let decision = c.index-decisions-decisions.result in
    let at = read_item decisions (length decisions - 1) decision (last_within c.args.model.now decisions c.requires.admissible) c.index-decisions-decisions.is in
    record {
      former = c.args.store.now;
      marked = c.in-Ok.ensures.marks.marks c.args.mark.now (snapshot_of c.args.store.now) c.requires.marked;
      goes_on = c.in-Ok.ensures.marks.stamps c.args.store.now (goes_on_same c.args.store.now);
      blocks = c.block_count-opened.ensures;
      earlier = but_last decisions;
      longer = sym (ends_with c.args.model.now decisions c.requires.admissible decision at);
      rest = c.requires.least.rest;
      least = c.requires.least.least;
    }

pub returns-in-Ok-clause-taken : goal.returns-in-Ok-clause-taken
returns-in-Ok-clause-taken c =
    let model = c.args.model.now in
    let decisions = c.args.decisions.now in
    let decision = c.index-decisions-decisions.result in
    let at = read_item decisions (length decisions - 1) decision (last_within model decisions c.requires.admissible) c.index-decisions-decisions.is in
    let rest = rests_for_all model decisions c.requires.admissible decision at c.args.store.now c.is_sound.ensures c.requires.least c.requires.settled c.requires.lawful c.advance.new.store c.in-Ok.ensures.advances in
    IfOk-weaker c.resources_fit_since.result
    (λ fit. MatchBool fit (IsLeast model decisions (seen_state c.advance.new.store)) (IsCollapsed model decisions))
    (λ fit. LeavesLeast model decisions fit c.advance.new.store)
    (λ fit told. fit_least model decisions c.advance.new.store fit rest.0 rest.1 rest.2 told) c.resources_fit_since.ensures

pub returns-in-Err-Collapsed-clause-taken : goal.returns-in-Err-Collapsed-clause-taken
returns-in-Err-Collapsed-clause-taken c =
    let model = c.args.model.now in
    let decisions = c.args.decisions.now in
    let decision = c.index-decisions-decisions.result in
    let at = read_item decisions (length decisions - 1) decision (last_within model decisions c.requires.admissible) c.index-decisions-decisions.is in
    nothing_for_all model decisions c.requires.admissible decision at c.args.store.now c.is_sound.ensures c.requires.least c.requires.settled c.requires.lawful c.advance.new.store
    (subst (λ (fault : NetFault). AdvancesBy model decision c.args.store.now (Err fault) c.advance.new.store) c.in-Err-Collapsed.field-0-is c.in-Err-Collapsed.ensures.advances)

pub advance-requires-clause-marked : goal.advance-requires-clause-marked
advance-requires-clause-marked c = (c.args.mark.now, c.requires.marked)
