use Rattle.std.proofs.Common.{◌∙◌}
use Rattle.std.proofs.lemmas.Result.{err_from_is_err_and}
use Rattle.db_fixpoint.proofs.Resting.{taken_way, taken_tables, heeds_some, heeds_fails, heeds_none}
use Rattle.db_posting.proofs.Storing.{marks_both}
use Rattle.db_fixpoint.proofs.Seated.{kept_on, seating_on}
use Rattle.db_fixpoint.proofs.fixpoint.heed_next.Goals as goal

pub look_at-requires-clause-way : goal.look_at-requires-clause-way
look_at-requires-clause-way c =
    let old = c.args.store.now in (
      c.requires.way.0,
      old.net.changed,
      taken_way c.args.model.now c.args.unfolded c.in-Some.variable old c.next_changed.new.self c.next_changed.ensures.others c.in-Some.ensures.taken
          c.requires.way.0 c.args.unfolded old.net.changed c.requires.way.1,
    )

pub returns-in_err-look_at-clause-heeds : goal.returns-in_err-look_at-clause-heeds
returns-in_err-look_at-clause-heeds c =
    let p = err_from_is_err_and c.from_residual.result c.from_residual.ensures.1 in
    rw (p.1, p.2)
    (heeds_fails c.args.model.now c.args.unfolded c.in-Some.variable c.args.store.now c.next_changed.new.self c.next_changed.ensures.others c.in-Some.ensures.taken
    c.look_at.new.store c.in_err-look_at.field-0.0 c.in_err-look_at.ensures.looks)

pub returns-clause-heeds : goal.returns-clause-heeds
returns-clause-heeds c =
    heeds_some c.args.model.now c.args.unfolded c.in-Some.variable c.args.store.now c.next_changed.new.self c.next_changed.ensures.others c.in-Some.ensures.taken
    c.look_at.new.store c.in_ok-look_at.ensures.looks c.in_ok-look_at.ensures.changed

pub returns-clause-tables : goal.returns-clause-tables
returns-clause-tables c =
    c.in_ok-look_at.ensures.tables
    ∙ taken_tables c.args.model.now c.args.unfolded c.in-Some.variable c.args.store.now c.next_changed.new.self c.next_changed.ensures.others c.in-Some.ensures.taken

pub returns-in_default-clause-heeds : goal.returns-in_default-clause-heeds
returns-in_default-clause-heeds c =
    heeds_none c.args.model.now c.args.unfolded c.args.store.now c.next_changed.new.self c.next_changed.ensures.others c.in_default.ensures.taken

pub returns-in_err-look_at-clause-marks : goal.returns-in_err-look_at-clause-marks
returns-in_err-look_at-clause-marks c =
    marks_both c.args.store.now c.next_changed.new.self c.look_at.new.store c.next_changed.ensures.marks c.in_err-look_at.ensures.marks

pub returns-clause-marks : goal.returns-clause-marks
returns-clause-marks c =
    marks_both c.args.store.now c.next_changed.new.self c.look_at.new.store c.next_changed.ensures.marks c.in_ok-look_at.ensures.marks

pub look_at-requires-clause-seated : goal.look_at-requires-clause-seated
look_at-requires-clause-seated c =
    seating_on c.args.store.now c.next_changed.new.self c.args.seating.now c.next_changed.ensures.marks c.requires.seated

pub returns-in_default-clause-seated : goal.returns-in_default-clause-seated
returns-in_default-clause-seated c =
    kept_on c.args.store.now c.next_changed.new.self c.args.seating.now c.next_changed.ensures.marks c.requires.seated
