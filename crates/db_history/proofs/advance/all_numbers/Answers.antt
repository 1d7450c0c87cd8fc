use Rattle.std.proofs.Common.{sym, subst, arith}
use Rattle.std.specs.Prelude.{List, ℕ, Contains}
use Rattle.db_history.proofs.Going.{one_more_there, none_past}
use Rattle.db_history.proofs.advance.all_numbers.Goals as goal

pub loop-number-init : goal.loop-number-init
loop-number-init c = λ n less. absurd (omega (arith, less))

pub loop-number-preserved : goal.loop-number-preserved
loop-number-preserved c = λ n less.
    subst (λ (list : List ℕ). Contains list n) (sym c.in_ok-push.ensures.items)
    (one_more_there c.loop-number.due.items c.loop-number.number n c.loop-number.invariant less)

pub returns-in_default : goal.returns-in_default
returns-in_default c = λ n less.
    let past = none_past c.args.store.now.keys c.loop-number.number c.in_default.ensures in
    c.loop-number.invariant n (omega (arith, less, past))
