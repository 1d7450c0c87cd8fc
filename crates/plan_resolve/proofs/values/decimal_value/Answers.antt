use Rattle.std.proofs.Common.{arith}
use Rattle.std.proofs.lemmas.Int.{ints}
use Rattle.plan_resolve.proofs.Valuing.{no_negative_said, none_negative_said, positive_said}
use Rattle.plan_resolve.proofs.values.decimal_value.Goals as goal

pub returns-in-Some-2 : goal.returns-in-Some-2
returns-in-Some-2 c =
    let is = c.in-Some-2.ensures in
    no_negative_said c.args.word.now c.in-Some.digits.now c.in-Some-2._zero c.in-Some.ensures (omega (arith, ints, c.if-value-gt0.false, is.1.0, is.1.1)) is

pub returns-in-None-thousandths_value : goal.returns-in-None-thousandths_value
returns-in-None-thousandths_value c = none_negative_said c.args.word.now c.in-Some.digits.now c.in-Some.ensures c.in-None-thousandths_value.ensures

pub returns-in-None : goal.returns-in-None
returns-in-None c = positive_said c.args.word.now c.thousandths_value-in-None.result c.in-None.ensures c.thousandths_value-in-None.ensures
