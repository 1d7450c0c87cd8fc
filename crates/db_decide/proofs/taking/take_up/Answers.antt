use Rattle.std.proofs.lemmas.Result.{err_from_is_err_and}
use Rattle.db_decide.proofs.Numbering.{taken_content, taken_preds, taken_there, taken_due, take_fails}
use Rattle.db_decide.proofs.taking.take_up.Goals as goal

pub due_after-requires-clause-there : goal.due_after-requires-clause-there
due_after-requires-clause-there c =
    taken_there c.args.model.now c.requires.may.0 c.args.decision.now c.args.store.now c.take_decision.new.store c.requires.may.1
    (λ due after. c.in_ok-take_decision.ensures.takes c.requires.may.0 due c.requires.may.1 after)

pub due_after-requires-clause-content : goal.due_after-requires-clause-content
due_after-requires-clause-content c =
    taken_content c.args.model.now c.requires.may.0 c.args.decision.now c.args.store.now c.take_decision.new.store c.requires.may.1
    (λ due after. c.in_ok-take_decision.ensures.takes c.requires.may.0 due c.requires.may.1 after)

pub due_after-requires-clause-preds : goal.due_after-requires-clause-preds
due_after-requires-clause-preds c =
    taken_preds c.args.model.now c.requires.may.0 c.args.decision.now c.args.store.now c.take_decision.new.store c.requires.may.1
    (λ due after. c.in_ok-take_decision.ensures.takes c.requires.may.0 due c.requires.may.1 after)

pub returns-clause-ok : goal.returns-clause-ok
returns-clause-ok c = λ decisions may.
    taken_due c.args.model.now decisions c.args.decision.now c.args.store.now c.take_decision.new.store may
    (λ due after. c.in_ok-take_decision.ensures.takes decisions due may after) c.in_ok-due.due.items c.in_ok-due.ensures

pub returns-in_err-take_decision-clause-collapsed : goal.returns-in_err-take_decision-clause-collapsed
returns-in_err-take_decision-clause-collapsed c = λ is.
    let p = err_from_is_err_and c.from_residual.result c.from_residual.ensures.1 in
    take_fails c.args.model.now c.args.decision.now c.args.store.now c.take_decision.new.store c.in_err-take_decision.field-0.0 (cc (p.1, p.2)) c.in_err-take_decision.ensures.takes
