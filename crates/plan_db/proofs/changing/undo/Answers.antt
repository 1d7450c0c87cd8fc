use Rattle.std.proofs.Common.{◌<◌, length, sym, subst, arith}
use Rattle.std.proofs.lemmas.Result.{err_from_is_err_and}
use Rattle.model_core.specs.History.{History}
use Rattle.db_history.specs.Kept.{WithdrawsLast}
use Rattle.plan_db.proofs.Answering.{withdrawn, withdrawn_keeps, still_keeps, brought_back, not_brought, keeps_ready}
use Rattle.plan_db.proofs.changing.undo.Goals as goal

pub returns-then-withdraw-clause-undone : goal.returns-then-withdraw-clause-undone
returns-then-withdraw-clause-undone c =
    let last = subst (λ b. WithdrawsLast c.args.model.now c.args.log.now c.args.kept.now b c.withdraw.new.log c.withdraw.new.kept) c.if-withdraw.true
    (c.withdraw.ensures c.args.model.now c.requires.kept) in
    withdrawn c.args.model.now c.args.log.now c.withdraw.new.log c.args.kept.now c.withdraw.new.kept last

pub returns-then-withdraw-clause-kept : goal.returns-then-withdraw-clause-kept
returns-then-withdraw-clause-kept c =
    let last = subst (λ b. WithdrawsLast c.args.model.now c.args.log.now c.args.kept.now b c.withdraw.new.log c.withdraw.new.kept) c.if-withdraw.true
    (c.withdraw.ensures c.args.model.now c.requires.kept) in
    keeps_ready c.args.model.now c.withdraw.new.log c.args.behind.now c.withdraw.new.kept
    (withdrawn_keeps c.args.model.now c.args.log.now c.withdraw.new.log c.args.kept.now c.withdraw.new.kept last)

pub withdraw-requires : goal.withdraw-requires
withdraw-requires c = (c.args.model.now, c.requires.kept)

pub bring_back-requires-clause-kept : goal.bring_back-requires-clause-kept
bring_back-requires-clause-kept c =
    let none = subst (λ b. WithdrawsLast c.args.model.now c.args.log.now c.args.kept.now b c.withdraw.new.log c.withdraw.new.kept) c.if-withdraw.false
    (c.withdraw.ensures c.args.model.now c.requires.kept) in
    still_keeps c.args.model.now c.args.log.now c.withdraw.new.log c.args.kept.now c.withdraw.new.kept none c.requires.kept

pub bring_back-requires-clause-some : goal.bring_back-requires-clause-some
bring_back-requires-clause-some c =
    let none = subst (λ b. WithdrawsLast c.args.model.now c.args.log.now c.args.kept.now b c.withdraw.new.log c.withdraw.new.kept) c.if-withdraw.false
    (c.withdraw.ensures c.args.model.now c.requires.kept) in
    let long : 1 < length c.args.log.now = omega arith in
    subst (λ (h : History). 1 < length h) (sym none.0) long

pub returns-in_err-fits-clause-undone : goal.returns-in_err-fits-clause-undone
returns-in_err-fits-clause-undone c =
    let p = err_from_is_err_and c.from_residual.result c.from_residual.ensures.1 in
    let none = subst (λ b. WithdrawsLast c.args.model.now c.args.log.now c.args.kept.now b c.withdraw.new.log c.withdraw.new.kept) c.if-withdraw.false
    (c.withdraw.ensures c.args.model.now c.requires.kept) in
    let long : 1 < length c.args.log.now = omega arith in
    rw (p.1, p.2)
    (not_brought c.args.model.now c.args.log.now c.withdraw.new.log c.args.kept.now c.withdraw.new.kept c.bring_back.new.log none c.in_err-fits.ensures.err long)

pub returns-in_err-fits-clause-same : goal.returns-in_err-fits-clause-same
returns-in_err-fits-clause-same c =
    let p = err_from_is_err_and c.from_residual.result c.from_residual.ensures.1 in
    rw (p.1, p.2) tt

pub returns-clause-undone : goal.returns-clause-undone
returns-clause-undone c =
    let none = subst (λ b. WithdrawsLast c.args.model.now c.args.log.now c.args.kept.now b c.withdraw.new.log c.withdraw.new.kept) c.if-withdraw.false
    (c.withdraw.ensures c.args.model.now c.requires.kept) in
    rw c.outcome_of.ensures
    (brought_back c.args.model.now c.args.log.now c.withdraw.new.log c.args.kept.now c.withdraw.new.kept c.bring_back.new.log c.in_ok-fits.fits none
    c.in_ok-fits.ensures.list c.in_ok-fits.ensures.fits)
