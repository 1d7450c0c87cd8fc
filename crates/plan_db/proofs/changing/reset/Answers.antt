use Rattle.std.proofs.Common.{refl}
use Rattle.std.proofs.lemmas.Result.{err_from_is_err_and}
use Rattle.plan_db.proofs.Answering.{place_within, was_reset, not_reset, none_on, keeps_ready}
use Rattle.plan_db.proofs.changing.reset.Goals as goal

pub returns-in_default-clause-reset : goal.returns-in_default-clause-reset
returns-in_default-clause-reset c =
    (refl, none_on c.args.model.now c.args.log.now c.args.subject.now c.standing.result.now c.standing.ensures c.in_default.ensures)

pub returns-in_default-clause-kept : goal.returns-in_default-clause-kept
returns-in_default-clause-kept c = keeps_ready c.args.model.now c.args.log.now c.args.behind.now c.args.kept.now c.requires.kept

pub take_out-requires-clause-within : goal.take_out-requires-clause-within
take_out-requires-clause-within c =
    let found = c.in-Some.ensures in
    place_within c.args.model.now c.args.log.now c.args.log.now c.args.subject.now c.standing.result.now c.in-Some.place found.0 c.standing.ensures found.1 found.2

pub returns-in_err-fits-clause-reset : goal.returns-in_err-fits-clause-reset
returns-in_err-fits-clause-reset c =
    let p = err_from_is_err_and c.from_residual.result c.from_residual.ensures.1 in
    let found = c.in-Some.ensures in
    rw (p.1, p.2)
    (not_reset c.args.model.now c.args.log.now c.take_out.new.log c.args.subject.now c.standing.result.now c.in-Some.place found.0 c.standing.ensures found.1 found.2
    c.in_err-fits.ensures.err)

pub returns-in_err-fits-clause-same : goal.returns-in_err-fits-clause-same
returns-in_err-fits-clause-same c =
    let p = err_from_is_err_and c.from_residual.result c.from_residual.ensures.1 in
    rw (p.1, p.2) tt

pub returns-clause-reset : goal.returns-clause-reset
returns-clause-reset c =
    let found = c.in-Some.ensures in
    rw c.outcome_of.ensures
    (was_reset c.args.model.now c.args.log.now c.take_out.new.log c.args.subject.now c.standing.result.now c.in-Some.place found.0 c.standing.ensures found.1 found.2
    c.in_ok-fits.fits c.in_ok-fits.ensures.list c.in_ok-fits.ensures.fits)
