use Rattle.std.proofs.Common.{arith}
use Rattle.std.proofs.lemmas.Bool.Decides.{nat_tests}
use Rattle.eu_name.proofs.Endings.{no_local, long_local}
use Rattle.eu_name.proofs.reading.read_local.Goals as goal

pub returns-in_err-number : goal.returns-in_err-number
returns-in_err-number c = rw c.from_residual-in_err-number.ensures (no_local c.args.text.now c.in_ok-rule.rest.now c.in_ok-rule.rule c.in_ok-rule.ensures c.in_err-number.ensures)

pub returns-else-is_empty : goal.returns-else-is_empty
returns-else-is_empty c =
    long_local c.args.text.now c.in_ok-rule.rest.now c.in_ok-number.rest.now c.in_ok-rule.rule c.in_ok-number.number c.in_ok-rule.ensures c.in_ok-number.ensures
    (λ empty. grind (arith, nat_tests))
