use Rattle.std.proofs.lemmas.Result.{err_from_is_err_and}
use Rattle.db_fixpoint.proofs.Resting.{propagate_fails, propagated_way, behind_fails, behind_on, behind_rest}
use Rattle.db_posting.proofs.Storing.{marks_both}
use Rattle.db_fixpoint.proofs.Seated.{kept_on, seating_on}
use Rattle.db_fixpoint.proofs.fixpoint.propagate.Goals as goal

pub returns-in_err-propagate-clause-round : goal.returns-in_err-propagate-clause-round
returns-in_err-propagate-clause-round c =
    let p = err_from_is_err_and c.from_residual.result c.from_residual.ensures.1 in
    rw (p.1, p.2)
    (propagate_fails c.args.model.now c.args.unfolded c.args.store.now c.propagate.new.self c.propagate.ensures.others c.propagate.ensures.down c.in_err-propagate.field-0.0 c.in_err-propagate.ensures.propagated)

pub heed_next-requires-clause-way : goal.heed_next-requires-clause-way
heed_next-requires-clause-way c = (
  c.requires.way.0,
  propagated_way c.args.model.now c.args.unfolded c.args.store.now c.propagate.new.self c.propagate.ensures.others c.propagate.ensures.down c.in_ok-propagate.ensures.propagated
      c.requires.way.0 c.requires.way.1,
)

pub returns-in_err-heeded-clause-round : goal.returns-in_err-heeded-clause-round
returns-in_err-heeded-clause-round c =
    let p = err_from_is_err_and c.from_residual-in_err-heeded.result c.from_residual-in_err-heeded.ensures.1 in
    rw (p.1, p.2)
    (behind_fails c.args.model.now c.args.unfolded c.args.store.now c.propagate.new.self c.propagate.ensures.others c.propagate.ensures.down c.in_ok-propagate.ensures.propagated
    c.heed_next.new.store c.in_err-heeded.field-0.0 c.in_err-heeded.ensures.heeds)

pub returns-then-heeded-clause-round : goal.returns-then-heeded-clause-round
returns-then-heeded-clause-round c =
    behind_on c.args.model.now c.args.unfolded c.args.store.now c.propagate.new.self c.propagate.ensures.others c.propagate.ensures.down c.in_ok-propagate.ensures.propagated
    c.heed_next.new.store c.in_ok-heeded.heeded c.if-heeded.true c.in_ok-heeded.ensures.heeds

pub returns-clause-round : goal.returns-clause-round
returns-clause-round c =
    behind_rest c.args.model.now c.args.unfolded c.args.store.now c.propagate.new.self c.propagate.ensures.others c.propagate.ensures.down c.in_ok-propagate.ensures.propagated
    c.requires.all c.in_ok-propagate.ensures.quiet c.heed_next.new.store c.in_ok-heeded.heeded c.if-heeded.false c.in_ok-heeded.ensures.heeds

pub returns-in_err-heeded-clause-marks : goal.returns-in_err-heeded-clause-marks
returns-in_err-heeded-clause-marks c =
    marks_both c.args.store.now c.propagate.new.self c.heed_next.new.store c.propagate.ensures.marks c.in_err-heeded.ensures.marks

pub returns-then-heeded-clause-marks : goal.returns-then-heeded-clause-marks
returns-then-heeded-clause-marks c =
    marks_both c.args.store.now c.propagate.new.self c.heed_next.new.store c.propagate.ensures.marks c.in_ok-heeded.ensures.marks

pub heed_next-requires-clause-seated : goal.heed_next-requires-clause-seated
heed_next-requires-clause-seated c =
    seating_on c.args.store.now c.propagate.new.self c.args.seating.now c.propagate.ensures.marks c.requires.seated

pub returns-in_err-propagate-clause-seated : goal.returns-in_err-propagate-clause-seated
returns-in_err-propagate-clause-seated c =
    kept_on c.args.store.now c.propagate.new.self c.args.seating.now c.propagate.ensures.marks c.requires.seated
