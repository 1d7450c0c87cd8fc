use Rattle.std.proofs.Common.{Err, ap, refl}
use Rattle.std.proofs.lemmas.Result.{err_from_is_err_and}
use Rattle.plan_db.specs.Database.{taken_in}
use Rattle.plan_db.specs.Faults.{fault_of}
use Rattle.plan_db.specs.declared.fault.DbFault.TheVariants.{Memory}
use Rattle.plan_db.proofs.Answering.{refused_as, never_memory, same_fault, outcome_fits, all_kept}
use Rattle.plan_db.proofs.changing.apply.Goals as goal

pub returns-in_err-judge-clause-applied : goal.returns-in_err-judge-clause-applied
returns-in_err-judge-clause-applied c =
    let p = err_from_is_err_and c.from_residual.result c.from_residual.ensures.1 in
    rw (p.1, p.2) (refused_as c.args.model.now c.args.log.now c.args.decision.now c.in_err-judge.field-0.0 c.in_err-judge.ensures)

pub returns-in_err-judge-clause-same : goal.returns-in_err-judge-clause-same
returns-in_err-judge-clause-same c = all_kept c.from_residual.result c.args.kept.now

pub returns-in_err-fits-clause-same : goal.returns-in_err-fits-clause-same
returns-in_err-fits-clause-same c =
    let p = err_from_is_err_and c.from_residual-in_err-fits.result c.from_residual-in_err-fits.ensures.1 in
    rw (p.1, p.2) tt

pub returns-clause-applied : goal.returns-clause-applied
returns-clause-applied c =
    rw c.outcome_of.ensures (
      c.in_ok-judge.ensures,
      ap (taken_in c.args.model.now) c.in_ok-fits.ensures.list,
      outcome_fits (taken_in c.args.model.now c.accept.new.log) c.in_ok-fits.fits c.in_ok-fits.ensures.fits,
    )

pub returns-in_err-judge-clause-risen : goal.returns-in_err-judge-clause-risen
returns-in_err-judge-clause-risen c =
    let p = err_from_is_err_and c.from_residual.result c.from_residual.ensures.1 in
    let objection = c.in_err-judge.field-0.0 in
    rw (p.1, p.2) (λ wanting. absurd (never_memory objection (same_fault (Err (fault_of objection)) (fault_of objection) Memory refl wanting)))

pub returns-in_err-fits-clause-risen : goal.returns-in_err-fits-clause-risen
returns-in_err-fits-clause-risen c = λ wanting. c.in_err-fits.ensures.risen
