use Rattle.std.proofs.Common.{arith}
use Rattle.std.proofs.lemmas.Int.{ints}
use Rattle.plan_resolve.proofs.Valuing.{thousandths_said, no_point_said, no_whole_said, no_digits_said}
use Rattle.plan_resolve.proofs.values.thousandths_value.Goals as goal

pub returns-in_default : goal.returns-in_default
returns-in_default c = no_point_said c.args.word.now c.in_default.ensures

pub returns-in_default-number_value : goal.returns-in_default-number_value
returns-in_default-number_value c = no_whole_said c.args.word.now c.in-Some.whole.now c.in-Some.digits.now c.in-Some.ensures c.in_default-number_value.ensures

pub returns-in-Some-three_digits_value : goal.returns-in-Some-three_digits_value
returns-in-Some-three_digits_value c =
    let is = c.in-Some-number_value.ensures in
    thousandths_said c.args.word.now c.in-Some.whole.now c.in-Some.digits.now c.in-Some-number_value.whole _ c.in-Some-three_digits_value.rest c.in_thousandths.result (omega (arith, ints, is.0.0, is.0.1))
    c.in-Some.ensures is c.in-Some-three_digits_value.ensures c.in_thousandths.ensures

pub returns-in-None : goal.returns-in-None
returns-in-None c = no_digits_said c.args.word.now c.in-Some.whole.now c.in-Some.digits.now c.in-Some.ensures c.in-None.ensures
