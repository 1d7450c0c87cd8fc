use Rattle.std.proofs.Common.{Some, FitsSigned, w32, sym, subst, rules, arith}
use Rattle.std.proofs.lemmas.Int.{ints, to_z-of_z}
use Rattle.db_store.specs.Stores.{Stored, snapshot_of, IsSnapshot}
use Rattle.db_fixpoint.specs.Turns.{FindsTimeline}
use Rattle.db_fixpoint.proofs.Seated.{kept_same, kept_later}
use Rattle.db_fixpoint.proofs.Sharing.{marks_alone, posts_then, finds_on, times_on, place_on, no_turns, turns_all, turns_marked}
use Rattle.db_posting.proofs.Storing.{marks_both}
use Rattle.db_fixpoint.proofs.turns.look_at_turns.Goals as goal

pub returns-in_default-clause-turns : goal.returns-in_default-clause-turns
returns-in_default-clause-turns c = no_turns c.args.model.now c.args.store.now c.args.place c.in_default.ensures

pub returns-in_default-clause-seated : goal.returns-in_default-clause-seated
returns-in_default-clause-seated c = kept_same c.args.store.now c.args.seating.now c.requires.seated

pub take_turns_among-requires-clause-times : goal.take_turns_among-requires-clause-times
take_turns_among-requires-clause-times c = times_on c.args.store.now c.catch_up.new.store (marks_alone c.args.store.now c.catch_up.new.store c.in_ok-catch_up.ensures.only) c.requires.times

pub take_turns_among-requires-clause-place : goal.take_turns_among-requires-clause-place
take_turns_among-requires-clause-place c = place_on c.args.store.now c.catch_up.new.store (marks_alone c.args.store.now c.catch_up.new.store c.in_ok-catch_up.ensures.only) c.args.place c.requires.place

pub take_turns_among-requires-clause-on : goal.take_turns_among-requires-clause-on
take_turns_among-requires-clause-on c =
    let fits : FitsSigned w32 c.in-Some.timeline = search rules in
    subst (λ timeline. FindsTimeline c.args.model.now c.catch_up.new.store c.args.place (Some timeline)) (sym (to_z-of_z w32 c.in-Some.timeline fits))
    (finds_on c.args.model.now c.args.store.now c.catch_up.new.store c.args.place (Some c.in-Some.timeline) (marks_alone c.args.store.now c.catch_up.new.store c.in_ok-catch_up.ensures.only) c.in-Some.ensures)

pub returns-clause-turns : goal.returns-clause-turns
returns-clause-turns c =
    let model = c.args.model.now in
    let old = c.args.store.now in
    let mid = c.catch_up.new.store in
    let only = c.in_ok-catch_up.ensures.only in
    let marks = marks_alone old mid only in
    let sound = subst (λ (stored : Stored). IsSnapshot (snapshot_of stored)) (sym only) c.is_sound.ensures in
    let finds = finds_on model old mid c.args.place (Some c.in-Some.timeline) marks c.in-Some.ensures in
    turns_marked model c.args.place old mid c.take_turns_among.new.store c.take_turns_among.result only
    (turns_all model mid c.args.place sound c.in-Some.timeline finds c.catch_up.new.self.seats
    c.in_ok-catch_up.ensures.all c.on.result.now (λ object is. c.on.ensures object (omega (arith, ints, is))) c.take_turns_among.new.store c.take_turns_among.result
    c.take_turns_among.ensures.turns)

pub returns-in_err-catch_up-clause-only : goal.returns-in_err-catch_up-clause-only
returns-in_err-catch_up-clause-only c = marks_alone c.args.store.now c.catch_up.new.store c.in_err-catch_up.ensures.only

pub returns-clause-only : goal.returns-clause-only
returns-clause-only c = posts_then c.args.store.now c.catch_up.new.store c.take_turns_among.new.store c.in_ok-catch_up.ensures.only c.take_turns_among.ensures.only

pub returns-clause-marks : goal.returns-clause-marks
returns-clause-marks c =
    marks_both c.args.store.now c.catch_up.new.store c.take_turns_among.new.store c.in_ok-catch_up.ensures.marks c.take_turns_among.ensures.marks

pub returns-clause-seated : goal.returns-clause-seated
returns-clause-seated c =
    kept_later c.args.seating.now c.catch_up.new.self c.catch_up.new.store c.take_turns_among.new.store c.take_turns_among.ensures.marks
    c.in_ok-catch_up.ensures.kept
