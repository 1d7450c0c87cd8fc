use Rattle.std.proofs.Common.{List, ◌∷◌, [], ◌++◌, length, sym, ◌∙◌, ap, subst, arith}
use Rattle.std.proofs.lemmas.List.{length_push}
use Rattle.db_store.specs.declared.store.Mark.{Mark}
use Rattle.db_history.specs.Seated.{AreSeatedAt}
use Rattle.db_store.specs.Stamps.{StampsRise}
use Rattle.db_store.specs.Stores.{snapshot_of}
use Rattle.db_history.specs.Advancing.{LeavesLeast, but_last}
use Rattle.db_history.specs.Standing.{StandsForList}
use Rattle.db_history.proofs.Resting.{one_less, before_again}
use Rattle.db_history.proofs.Returning.{marked_here, idle_marked, stands_marked, stands_caught, pushed, kept_back, on_err, rise_marked, marked_rise}
use Rattle.db_fixpoint.proofs.Sharing.{only_marked}
use Rattle.db_posting.proofs.Storing.{marks_both}
use Rattle.db_history.proofs.Stepping.{seated_on, seated_same, seated_begun, seated_given_up}
use Rattle.db_history.proofs.standing.push_last_decision.Goals as goal

pub go_back-requires-clause-can : goal.go_back-requires-clause-can
go_back-requires-clause-can c = (snapshot_of c.catch_up.new.store, c.take_last_decision.ensures.marks.marks c.mark-mark.result (snapshot_of c.catch_up.new.store) c.mark-mark.ensures.is)

pub go_back-requires-in-Err-clause-can : goal.go_back-requires-in-Err-clause-can
go_back-requires-in-Err-clause-can c = (snapshot_of c.catch_up.new.store, c.take_last_decision.ensures.marks.marks c.mark-mark.result (snapshot_of c.catch_up.new.store) c.mark-mark.ensures.is)

pub returns-in-Ok-true-clause-ok : goal.returns-in-Ok-true-clause-ok
returns-in-Ok-true-clause-ok c =
    let model = c.args.model.now in
    let decisions = c.args.decisions.now in
    let least = subst (λ fit. LeavesLeast model decisions fit c.take_last_decision.new.store) c.in-Ok-true.field-0-test c.in-Ok-true.ensures.taken in
    subst (StandsForList model decisions c.take_last_decision.new.store) (sym (c.push_reserved.ensures.items ∙ ap (λ list. list ++ c.mark-mark.result ∷ []) c.reserve.ensures.items))
    (pushed model (but_last decisions) c.args.marks.now.items c.mark-mark.new.self c.take_last_decision.new.store c.mark-mark.result (stands_caught model (but_last decisions) c.args.marks.now.items c.args.store.now c.catch_up.new.store c.mark-mark.new.self c.in_ok-catch_up.ensures.only c.in_ok-catch_up.ensures.marks c.mark-mark.ensures.marked c.mark-mark.ensures.marks c.requires.stands) c.take_last_decision.ensures.marks (marked_here c.mark-mark.result c.catch_up.new.store c.mark-mark.new.self c.mark-mark.ensures.marked c.mark-mark.ensures.is) c.mark-mark.ensures.latest
    (c.mark-mark.ensures.idle (idle_marked c.args.store.now c.catch_up.new.store c.in_ok-catch_up.ensures.only c.requires.stands.idle))
    decisions (one_less model decisions c.requires.admissible) (before_again model decisions c.requires.admissible) least.0 least.1)

pub returns-in-Ok-false-clause-ok : goal.returns-in-Ok-false-clause-ok
returns-in-Ok-false-clause-ok c =
    let model = c.args.model.now in
    let decisions = c.args.decisions.now in (
      subst (StandsForList model (but_last decisions) c.go_back.new.store) (sym c.reserve.ensures.items)
          (kept_back model (but_last decisions) c.args.marks.now.items c.mark-mark.new.self c.take_last_decision.new.store c.mark-mark.result (stands_caught model (but_last decisions) c.args.marks.now.items c.args.store.now c.catch_up.new.store c.mark-mark.new.self c.in_ok-catch_up.ensures.only c.in_ok-catch_up.ensures.marks c.mark-mark.ensures.marked c.mark-mark.ensures.marks c.requires.stands) c.take_last_decision.ensures.marks (marked_here c.mark-mark.result c.catch_up.new.store c.mark-mark.new.self c.mark-mark.ensures.marked c.mark-mark.ensures.is) c.mark-mark.ensures.latest
          (c.mark-mark.ensures.idle (idle_marked c.args.store.now c.catch_up.new.store c.in_ok-catch_up.ensures.only c.requires.stands.idle)) c.go_back.new.store c.go_back.ensures.back),
      subst (λ fit. LeavesLeast model decisions fit c.take_last_decision.new.store) c.in-Ok-false.field-0-test c.in-Ok-false.ensures.taken,
    )

pub returns-in-Err-clause-err : goal.returns-in-Err-clause-err
returns-in-Err-clause-err c =
    let model = c.args.model.now in
    let decisions = c.args.decisions.now in
    subst (StandsForList model (but_last decisions) c.go_back-in-Err.new.store) (sym c.reserve.ensures.items)
    (kept_back model (but_last decisions) c.args.marks.now.items c.mark-mark.new.self c.take_last_decision.new.store c.mark-mark.result (stands_caught model (but_last decisions) c.args.marks.now.items c.args.store.now c.catch_up.new.store c.mark-mark.new.self c.in_ok-catch_up.ensures.only c.in_ok-catch_up.ensures.marks c.mark-mark.ensures.marked c.mark-mark.ensures.marks c.requires.stands) c.take_last_decision.ensures.marks (marked_here c.mark-mark.result c.catch_up.new.store c.mark-mark.new.self c.mark-mark.ensures.marked c.mark-mark.ensures.is) c.mark-mark.ensures.latest
    (c.mark-mark.ensures.idle (idle_marked c.args.store.now c.catch_up.new.store c.in_ok-catch_up.ensures.only c.requires.stands.idle)) c.go_back-in-Err.new.store c.go_back-in-Err.ensures.back)

pub returns-in-Ok-true-clause-stamps : goal.returns-in-Ok-true-clause-stamps
returns-in-Ok-true-clause-stamps c = λ fit.
    c.stamps_follow.ensures c.args.store.now c.take_last_decision.new.store c.is_sound.ensures c.is_sound-in-Ok-true.ensures
    (marks_both c.args.store.now c.catch_up.new.store c.take_last_decision.new.store c.in_ok-catch_up.ensures.marks
    (marks_both c.catch_up.new.store c.mark-mark.new.self c.take_last_decision.new.store c.mark-mark.ensures.marks c.take_last_decision.ensures.marks))

pub returns-in_err-reserve-clause-seated : goal.returns-in_err-reserve-clause-seated
returns-in_err-reserve-clause-seated c =
    subst (λ (marks : List Mark). AreSeatedAt c.args.store.now marks c.args.seating.now) (sym c.reserve.ensures.items) c.requires.seated

pub catch_up-requires : goal.catch_up-requires
catch_up-requires c = c.requires.seated.is

pub returns-in_err-catch_up-clause-seated : goal.returns-in_err-catch_up-clause-seated
returns-in_err-catch_up-clause-seated c =
    subst (λ (marks : List Mark). AreSeatedAt c.catch_up.new.store marks c.catch_up.new.self) (sym c.reserve.ensures.items)
    (seated_on c.args.store.now c.catch_up.new.store c.args.marks.now.items c.args.seating.now c.catch_up.new.self c.in_err-catch_up.ensures.marks
    c.in_err-catch_up.ensures.kept c.requires.seated)

pub returns-in_err-begin_step-clause-seated : goal.returns-in_err-begin_step-clause-seated
returns-in_err-begin_step-clause-seated c =
    subst (λ (marks : List Mark). AreSeatedAt c.catch_up.new.store marks c.begin_step.new.self) (sym c.reserve.ensures.items)
    (seated_same c.catch_up.new.store c.args.marks.now.items c.catch_up.new.self c.begin_step.new.self c.in_err-begin_step.ensures.seats c.in_err-begin_step.ensures.mark
    c.in_err-begin_step.ensures.err
    (seated_on c.args.store.now c.catch_up.new.store c.args.marks.now.items c.args.seating.now c.catch_up.new.self c.in_ok-catch_up.ensures.marks
    c.in_ok-catch_up.ensures.kept c.requires.seated))

pub take_last_decision-requires-clause-seated : goal.take_last_decision-requires-clause-seated
take_last_decision-requires-clause-seated c =
    let marks = c.args.marks.now.items in
    (seated_begun c.args.store.now c.catch_up.new.store c.mark-mark.new.self marks c.mark-mark.result c.args.seating.now c.catch_up.new.self c.begin_step.new.self
    c.in_ok-catch_up.ensures.marks c.in_ok-catch_up.ensures.kept c.in_ok-catch_up.ensures.all c.requires.seated c.mark-mark.ensures.marked c.mark-mark.ensures.marks c.mark-mark.ensures.is
    c.in_ok-begin_step.ensures.seats c.in_ok-begin_step.ensures.mark c.in_ok-begin_step.ensures.ok).is

pub returns-in-Ok-true-clause-seated : goal.returns-in-Ok-true-clause-seated
returns-in-Ok-true-clause-seated c =
    let marks = c.args.marks.now.items in
    let store = c.mark-mark.new.self in
    let begun = seated_begun c.args.store.now c.catch_up.new.store c.mark-mark.new.self marks c.mark-mark.result c.args.seating.now c.catch_up.new.self c.begin_step.new.self
    c.in_ok-catch_up.ensures.marks c.in_ok-catch_up.ensures.kept c.in_ok-catch_up.ensures.all c.requires.seated c.mark-mark.ensures.marked c.mark-mark.ensures.marks c.mark-mark.ensures.is
    c.in_ok-begin_step.ensures.seats c.in_ok-begin_step.ensures.mark c.in_ok-begin_step.ensures.ok in
    subst (λ (list : List Mark). AreSeatedAt c.take_last_decision.new.store list c.take_last_decision.new.seating) (sym (c.push_reserved.ensures.items ∙ ap (λ list. list ++ c.mark-mark.result ∷ []) c.reserve.ensures.items))
    (seated_on store c.take_last_decision.new.store (marks ++ c.mark-mark.result ∷ []) c.begin_step.new.self c.take_last_decision.new.seating c.take_last_decision.ensures.marks c.take_last_decision.ensures.seated begun)

pub go_back-requires-clause-step : goal.go_back-requires-clause-step
go_back-requires-clause-step c =
    let steps = ap length c.take_last_decision.ensures.seated.steps ∙ ap length c.in_ok-begin_step.ensures.ok ∙ length_push c.catch_up.new.self.steps.items (length c.catch_up.new.self.seats) in
    omega (arith, steps, ap length c.in_ok-catch_up.ensures.kept.steps, c.requires.seated.count, c.len.ensures, ap length c.reserve.ensures.items)

pub returns-in-Ok-false-clause-seated : goal.returns-in-Ok-false-clause-seated
returns-in-Ok-false-clause-seated c =
    let marks = c.args.marks.now.items in
    let store = c.mark-mark.new.self in
    let begun = seated_begun c.args.store.now c.catch_up.new.store c.mark-mark.new.self marks c.mark-mark.result c.args.seating.now c.catch_up.new.self c.begin_step.new.self
    c.in_ok-catch_up.ensures.marks c.in_ok-catch_up.ensures.kept c.in_ok-catch_up.ensures.all c.requires.seated c.mark-mark.ensures.marked c.mark-mark.ensures.marks c.mark-mark.ensures.is
    c.in_ok-begin_step.ensures.seats c.in_ok-begin_step.ensures.mark c.in_ok-begin_step.ensures.ok in
    let taken = seated_on store c.take_last_decision.new.store (marks ++ c.mark-mark.result ∷ []) c.begin_step.new.self c.take_last_decision.new.seating c.take_last_decision.ensures.marks c.take_last_decision.ensures.seated begun in
    subst (λ (list : List Mark). AreSeatedAt c.go_back.new.store list c.go_back.new.seating) (sym c.reserve.ensures.items)
    (seated_given_up store c.take_last_decision.new.store c.go_back.new.store marks c.mark-mark.result c.take_last_decision.new.seating c.go_back.new.seating taken c.mark-mark.ensures.latest
    (λ k earlier at.
    let was = c.requires.stands.marked k earlier at in
    (was.0, c.mark-mark.ensures.marks.marks earlier was.0 (c.in_ok-catch_up.ensures.marks.marks earlier was.0 was.1))) c.go_back.ensures.back c.len.result
    (omega (arith, c.len.ensures, ap length c.reserve.ensures.items))
    c.go_back.ensures.seats c.go_back.ensures.marked c.go_back.ensures.steps)

pub go_back-requires-in-Err-clause-step : goal.go_back-requires-in-Err-clause-step
go_back-requires-in-Err-clause-step c =
    let steps = ap length c.take_last_decision.ensures.seated.steps ∙ ap length c.in_ok-begin_step.ensures.ok ∙ length_push c.catch_up.new.self.steps.items (length c.catch_up.new.self.seats) in
    omega (arith, steps, ap length c.in_ok-catch_up.ensures.kept.steps, c.requires.seated.count, c.len-in-Err.ensures, ap length c.reserve.ensures.items)

pub returns-in-Err-clause-seated : goal.returns-in-Err-clause-seated
returns-in-Err-clause-seated c =
    let marks = c.args.marks.now.items in
    let store = c.mark-mark.new.self in
    let begun = seated_begun c.args.store.now c.catch_up.new.store c.mark-mark.new.self marks c.mark-mark.result c.args.seating.now c.catch_up.new.self c.begin_step.new.self
    c.in_ok-catch_up.ensures.marks c.in_ok-catch_up.ensures.kept c.in_ok-catch_up.ensures.all c.requires.seated c.mark-mark.ensures.marked c.mark-mark.ensures.marks c.mark-mark.ensures.is
    c.in_ok-begin_step.ensures.seats c.in_ok-begin_step.ensures.mark c.in_ok-begin_step.ensures.ok in
    let taken = seated_on store c.take_last_decision.new.store (marks ++ c.mark-mark.result ∷ []) c.begin_step.new.self c.take_last_decision.new.seating c.take_last_decision.ensures.marks c.take_last_decision.ensures.seated begun in
    subst (λ (list : List Mark). AreSeatedAt c.go_back-in-Err.new.store list c.go_back-in-Err.new.seating) (sym c.reserve.ensures.items)
    (seated_given_up store c.take_last_decision.new.store c.go_back-in-Err.new.store marks c.mark-mark.result c.take_last_decision.new.seating c.go_back-in-Err.new.seating taken c.mark-mark.ensures.latest
    (λ k earlier at.
    let was = c.requires.stands.marked k earlier at in
    (was.0, c.mark-mark.ensures.marks.marks earlier was.0 (c.in_ok-catch_up.ensures.marks.marks earlier was.0 was.1))) c.go_back-in-Err.ensures.back c.len-in-Err.result
    (omega (arith, c.len-in-Err.ensures, ap length c.reserve.ensures.items))
    c.go_back-in-Err.ensures.seats c.go_back-in-Err.ensures.marked c.go_back-in-Err.ensures.steps)

pub take_last_decision-requires-clause-least : goal.take_last_decision-requires-clause-least
take_last_decision-requires-clause-least c =
    let model = c.args.model.now in
    let decisions = c.args.decisions.now in
    (stands_caught model (but_last decisions) c.args.marks.now.items c.args.store.now c.catch_up.new.store c.mark-mark.new.self c.in_ok-catch_up.ensures.only c.in_ok-catch_up.ensures.marks c.mark-mark.ensures.marked c.mark-mark.ensures.marks c.requires.stands).here

pub take_last_decision-requires-clause-marked : goal.take_last_decision-requires-clause-marked
take_last_decision-requires-clause-marked c = marked_here c.mark-mark.result c.catch_up.new.store c.mark-mark.new.self c.mark-mark.ensures.marked c.mark-mark.ensures.is

pub returns-in_err-catch_up-clause-err : goal.returns-in_err-catch_up-clause-err
returns-in_err-catch_up-clause-err c =
    let model = c.args.model.now in
    let before = but_last c.args.decisions.now in
    on_err c.from_residual-in_err-catch_up.result (StandsForList model before c.catch_up.new.store c.reserve.new.self.items)
    (subst (StandsForList model before c.catch_up.new.store) (sym c.reserve.ensures.items)
    (stands_marked model before c.args.marks.now.items c.args.store.now c.catch_up.new.store c.in_err-catch_up.ensures.only c.in_err-catch_up.ensures.marks c.requires.stands))

pub returns-in_err-begin_step-clause-err : goal.returns-in_err-begin_step-clause-err
returns-in_err-begin_step-clause-err c =
    let model = c.args.model.now in
    let before = but_last c.args.decisions.now in
    on_err c.from_residual-in_err-begin_step.result (StandsForList model before c.catch_up.new.store c.reserve.new.self.items)
    (subst (StandsForList model before c.catch_up.new.store) (sym c.reserve.ensures.items)
    (stands_marked model before c.args.marks.now.items c.args.store.now c.catch_up.new.store c.in_ok-catch_up.ensures.only c.in_ok-catch_up.ensures.marks c.requires.stands))

pub returns-in_err-reserve-clause-risen : goal.returns-in_err-reserve-clause-risen
returns-in_err-reserve-clause-risen c =
    on_err c.from_residual.result (StampsRise c.args.store.now c.args.store.now) (c.stamps_rise.ensures.same c.args.store.now c.is_sound.ensures)

pub returns-in_err-catch_up-clause-risen : goal.returns-in_err-catch_up-clause-risen
returns-in_err-catch_up-clause-risen c =
    on_err c.from_residual-in_err-catch_up.result (StampsRise c.args.store.now c.catch_up.new.store)
    (marked_rise c.args.store.now c.catch_up.new.store c.in_err-catch_up.ensures.only (c.stamps_rise.ensures.same c.args.store.now c.is_sound.ensures))

pub returns-in_err-begin_step-clause-risen : goal.returns-in_err-begin_step-clause-risen
returns-in_err-begin_step-clause-risen c =
    on_err c.from_residual-in_err-begin_step.result (StampsRise c.args.store.now c.catch_up.new.store)
    (marked_rise c.args.store.now c.catch_up.new.store c.in_ok-catch_up.ensures.only (c.stamps_rise.ensures.same c.args.store.now c.is_sound.ensures))

pub returns-in-Err-clause-risen : goal.returns-in-Err-clause-risen
returns-in-Err-clause-risen c =
    let caught = c.catch_up.new.store in
    let marked = c.mark-mark.new.self in
    rise_marked c.args.store.now caught c.go_back-in-Err.new.store c.in_ok-catch_up.ensures.only
    (rise_marked caught marked c.go_back-in-Err.new.store (only_marked caught marked c.mark-mark.ensures.marked)
    (c.stamps_rise.ensures.back c.mark-mark.result marked c.take_last_decision.new.store c.go_back-in-Err.new.store
    (marked_here c.mark-mark.result caught marked c.mark-mark.ensures.marked c.mark-mark.ensures.is) c.take_last_decision.ensures.marks c.go_back-in-Err.ensures.back))
