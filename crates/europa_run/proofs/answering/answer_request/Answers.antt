use Rattle.europa_run.proofs.Comings.{plan_comes, check_comes, show_comes, try_comes}
use Rattle.europa_run.proofs.answering.answer_request.Goals as goal

pub returns-in-Plan-clause-comes : goal.returns-in-Plan-clause-comes
returns-in-Plan-clause-comes g c = λ files told.
    rw c.printed.ensures.told (plan_comes files c.args.request.now c.plan.result _ _ _ c.in-Plan.is (c.plan.ensures.planned files told))

pub returns-in-Check-clause-comes : goal.returns-in-Check-clause-comes
returns-in-Check-clause-comes g c = λ files told.
    rw c.printed-in-Check.ensures.told (check_comes files c.args.request.now c.check.result _ _ c.in-Check.is (c.check.ensures.checked files told))

pub returns-in-Show-clause-comes : goal.returns-in-Show-clause-comes
returns-in-Show-clause-comes g c = λ files told.
    rw c.printed-in-Show.ensures.told (show_comes files c.args.request.now c.show.result _ c.in-Show.is (c.show.ensures.shown files told))

pub returns-in-Try-clause-comes : goal.returns-in-Try-clause-comes
returns-in-Try-clause-comes g c = λ files told.
    rw c.printed-in-Try.ensures.told (try_comes files c.args.request.now c.trial.result _ c.in-Try.is c.trial.ensures.tried)
