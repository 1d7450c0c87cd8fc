use Rattle.std.proofs.Common.{refl, sym, ◌∙◌, subst}
use Rattle.std.proofs.lemmas.Result.{err_from_is_err_and}
use Rattle.db_posting.specs.Tables.{HaveTables}
use Rattle.db_fixpoint.specs.Fixpoint.{RoundLeaves}
use Rattle.db_fixpoint.proofs.Resting.{run_fails, run_ends}
use Rattle.db_posting.proofs.Storing.{marks_same, marks_both}
use Rattle.db_fixpoint.proofs.Seated.{kept_same, kept_both}
use Rattle.db_fixpoint.proofs.fixpoint.run.Goals as goal

pub loop-round-init : goal.loop-round-init
loop-round-init c = record {
  on = λ decisions way. way;
  tables = refl;
  marks = marks_same _;
  seated = kept_same c.args.store.now c.args.seating.now c.requires.seated;
}

pub make_round-requires-clause-tables : goal.make_round-requires-clause-tables
make_round-requires-clause-tables c = subst (HaveTables c.args.model.now) (sym c.loop-round.invariant.tables) c.requires.tables

pub make_round-requires-clause-way : goal.make_round-requires-clause-way
make_round-requires-clause-way c = (c.requires.way.0, c.loop-round.invariant.on c.requires.way.0 c.requires.way.1)

pub returns-in_err-next-clause-runs : goal.returns-in_err-next-clause-runs
returns-in_err-next-clause-runs c =
    let p = err_from_is_err_and c.from_residual.result c.from_residual.ensures.1 in
    rw (p.1, p.2)
    (run_fails c.args.model.now c.args.unfolded c.args.store.now c.loop-round.store c.loop-round.count c.loop-round.invariant.on c.make_round.new.store c.in_err-next.field-0.0 c.in_err-next.ensures.round)

pub returns-in_default-clause-runs : goal.returns-in_default-clause-runs
returns-in_default-clause-runs c =
    run_ends c.args.model.now c.args.unfolded c.args.store.now c.loop-round.store c.loop-round.count c.loop-round.invariant.on c.make_round.new.store _
    c.in_default.not-On c.in_ok-next.ensures.round

pub loop-round-preserved : goal.loop-round-preserved
loop-round-preserved c =
    let taken = c.in_ok-next.ensures in
    record {
      on = λ decisions way. subst (λ next. RoundLeaves c.args.model.now decisions next c.make_round.new.store) c.in-On.is (taken.round decisions (c.loop-round.invariant.on decisions way));
      tables = taken.tables ∙ c.loop-round.invariant.tables;
      marks = marks_both _ _ _ c.loop-round.invariant.marks taken.marks;
      seated = kept_both c.args.seating.now c.loop-round.seating c.make_round.new.seating c.loop-round.store c.make_round.new.store c.loop-round.invariant.seated taken.seated;
    }

pub returns-in_err-next-clause-marks : goal.returns-in_err-next-clause-marks
returns-in_err-next-clause-marks c =
    marks_both c.args.store.now c.loop-round.store c.make_round.new.store c.loop-round.invariant.marks c.in_err-next.ensures.marks

pub returns-in_default-clause-marks : goal.returns-in_default-clause-marks
returns-in_default-clause-marks c =
    marks_both c.args.store.now c.loop-round.store c.make_round.new.store c.loop-round.invariant.marks c.in_ok-next.ensures.marks

pub make_round-requires-clause-seated : goal.make_round-requires-clause-seated
make_round-requires-clause-seated c = c.loop-round.invariant.seated.is

pub returns-in_err-next-clause-seated : goal.returns-in_err-next-clause-seated
returns-in_err-next-clause-seated c =
    kept_both c.args.seating.now c.loop-round.seating c.make_round.new.seating c.loop-round.store c.make_round.new.store c.loop-round.invariant.seated
    c.in_err-next.ensures.seated

pub returns-in_default-clause-seated : goal.returns-in_default-clause-seated
returns-in_default-clause-seated c =
    kept_both c.args.seating.now c.loop-round.seating c.make_round.new.seating c.loop-round.store c.make_round.new.store c.loop-round.invariant.seated
    c.in_ok-next.ensures.seated
