use Rattle.std.proofs.Common.{subst}
use Rattle.db_history.specs.Kept.{WithdrawsLast}
use Rattle.plan_db.proofs.Answering.{withdrawn_keeps, backtracked, none_withdrawn, still_keeps}
use Rattle.plan_db.proofs.changing.backtrack.Goals as goal

pub returns-then-withdraw : goal.returns-then-withdraw
returns-then-withdraw c = λ model keeps.
    let last = subst (λ b. WithdrawsLast model c.args.log.now c.args.kept.now b c.withdraw.new.log c.withdraw.new.kept) c.if-withdraw.true (c.withdraw.ensures model keeps) in (
      backtracked model c.args.log.now c.withdraw.new.log c.args.kept.now c.withdraw.new.kept last,
      withdrawn_keeps model c.args.log.now c.withdraw.new.log c.args.kept.now c.withdraw.new.kept last,
      tt,
      last.4,
    )

pub returns : goal.returns
returns c = λ model keeps.
    let none = subst (λ b. WithdrawsLast model c.args.log.now c.args.kept.now b c.withdraw.new.log c.withdraw.new.kept) c.if-withdraw.false (c.withdraw.ensures model keeps) in (
      none_withdrawn model c.args.log.now c.withdraw.new.log c.args.kept.now c.withdraw.new.kept none,
      still_keeps model c.args.log.now c.withdraw.new.log c.args.kept.now c.withdraw.new.kept none keeps,
      none.1,
      tt,
    )
