use Rattle.std.proofs.Common.{refl, slice_index_or, ◌∙◌}
use Rattle.std.proofs.lemmas.List.{drop_all}
use Rattle.std.proofs.lemmas.Result.{err_from_is_err_and}
use Rattle.db_fixpoint.proofs.Resting.{looked_way, looked_more, looked_fails, looked_all}
use Rattle.db_posting.proofs.Storing.{marks_same, marks_both}
use Rattle.db_fixpoint.proofs.Seated.{kept_same, kept_both}
use Rattle.db_fixpoint.proofs.fixpoint.look_at_all.Goals as goal

pub loop-variable-init : goal.loop-variable-init
loop-variable-init c = record {
  looked = λ decisions waiting way. way;
  tables = refl;
  changed = refl;
  marks = marks_same _;
  seated = kept_same c.args.store.now c.args.seating.now c.requires.seated;
}

pub look_at-requires-clause-way : goal.look_at-requires-clause-way
look_at-requires-clause-way c =
    looked_way c.args.model.now c.args.unfolded c.args.due.now c.loop-variable.variable-index c.args.store.now c.loop-variable.store c.loop-variable.invariant.looked c.requires.way

pub returns-in_err-look_at-clause-looks : goal.returns-in_err-look_at-clause-looks
returns-in_err-look_at-clause-looks c =
    let p = err_from_is_err_and c.from_residual.result c.from_residual.ensures.1 in
    rw (p.1, p.2)
    (looked_fails c.args.model.now c.args.unfolded c.args.due.now c.loop-variable.variable-index c.args.store.now c.loop-variable.store c.loop-variable.invariant.looked
    (slice_index_or c.args.due.now c.loop-variable.variable-index 0) c.loop-variable-test.true refl c.look_at.new.store c.in_err-look_at.field-0.0 c.in_err-look_at.ensures.looks)

pub loop-variable-preserved : goal.loop-variable-preserved
loop-variable-preserved c =
    let step = c.in_ok-look_at.ensures in
    let before = c.loop-variable.invariant in
    record {
      looked = looked_more c.args.model.now c.args.unfolded c.args.due.now c.loop-variable.variable-index c.args.store.now c.loop-variable.store before.looked
          (slice_index_or c.args.due.now c.loop-variable.variable-index 0) c.loop-variable-test.true refl c.look_at.new.store step.looks;
      tables = step.tables ∙ before.tables;
      changed = step.changed ∙ before.changed;
      marks = marks_both _ _ _ before.marks step.marks;
      seated = kept_both c.args.seating.now c.loop-variable.seating c.look_at.new.seating c.loop-variable.store c.look_at.new.store before.seated step.seated;
    }

pub returns-clause-looks : goal.returns-clause-looks
returns-clause-looks c =
    looked_all c.args.model.now c.args.unfolded c.args.due.now c.loop-variable.variable-index c.args.store.now c.loop-variable.store c.loop-variable.invariant.looked
    (drop_all c.loop-variable.variable-index c.args.due.now c.loop-variable-test.false)

pub returns-in_err-look_at-clause-marks : goal.returns-in_err-look_at-clause-marks
returns-in_err-look_at-clause-marks c =
    marks_both c.args.store.now c.loop-variable.store c.look_at.new.store c.loop-variable.invariant.marks c.in_err-look_at.ensures.marks

pub look_at-requires-clause-seated : goal.look_at-requires-clause-seated
look_at-requires-clause-seated c = c.loop-variable.invariant.seated.is

pub returns-in_err-look_at-clause-seated : goal.returns-in_err-look_at-clause-seated
returns-in_err-look_at-clause-seated c =
    kept_both c.args.seating.now c.loop-variable.seating c.look_at.new.seating c.loop-variable.store c.look_at.new.store c.loop-variable.invariant.seated
    c.in_err-look_at.ensures.seated
