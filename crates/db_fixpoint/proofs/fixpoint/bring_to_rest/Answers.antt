use Rattle.std.proofs.Common.{sym, subst}
use Rattle.std.proofs.lemmas.Result.{err_from_is_err_and}
use Rattle.db_posting.specs.Tables.{HaveTables}
use Rattle.db_fixpoint.proofs.Resting.{bring_fails, bring_way, brings_on}
use Rattle.db_posting.proofs.Storing.{marks_both}
use Rattle.db_fixpoint.proofs.Seated.{kept_both}
use Rattle.db_fixpoint.proofs.fixpoint.bring_to_rest.Goals as goal

pub look_at_all-requires-clause-way : goal.look_at_all-requires-clause-way
look_at_all-requires-clause-way c = (c.requires.way.0, c.requires.way.1, c.requires.way.2.1)

pub returns-in_err-look_at_all-clause-brings : goal.returns-in_err-look_at_all-clause-brings
returns-in_err-look_at_all-clause-brings c =
    let p = err_from_is_err_and c.from_residual.result c.from_residual.ensures.1 in
    rw (p.1, p.2)
    (bring_fails c.args.model.now c.args.unfolded c.args.due.now c.args.store.now c.look_at_all.new.store c.look_at_all.new.store c.in_err-look_at_all.field-0.0 c.in_err-look_at_all.ensures.looks)

pub run-requires-clause-tables : goal.run-requires-clause-tables
run-requires-clause-tables c = subst (HaveTables c.args.model.now) (sym c.in_ok-look_at_all.ensures.tables) c.requires.tables

pub run-requires-clause-way : goal.run-requires-clause-way
run-requires-clause-way c = (
  c.requires.way.0,
  bring_way c.args.model.now c.args.unfolded c.args.due.now c.args.store.now c.look_at_all.new.store c.in_ok-look_at_all.ensures.looks c.in_ok-look_at_all.ensures.changed
      c.requires.way.0 c.requires.way.1 c.requires.way.2.0 c.requires.way.2.1,
)

pub returns-clause-brings : goal.returns-clause-brings
returns-clause-brings c =
    brings_on c.args.model.now c.args.unfolded c.args.due.now c.args.store.now c.look_at_all.new.store c.in_ok-look_at_all.ensures.looks c.in_ok-look_at_all.ensures.changed
    c.run.new.store c.run.result c.run.ensures.runs

pub returns-clause-marks : goal.returns-clause-marks
returns-clause-marks c =
    marks_both c.args.store.now c.look_at_all.new.store c.run.new.store c.in_ok-look_at_all.ensures.marks c.run.ensures.marks

pub run-requires-clause-seated : goal.run-requires-clause-seated
run-requires-clause-seated c = c.in_ok-look_at_all.ensures.seated.is

pub returns-clause-seated : goal.returns-clause-seated
returns-clause-seated c =
    kept_both c.args.seating.now c.look_at_all.new.seating c.run.new.seating c.look_at_all.new.store c.run.new.store c.in_ok-look_at_all.ensures.seated
    c.run.ensures.seated
