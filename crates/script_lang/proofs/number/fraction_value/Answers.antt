use Rattle.std.proofs.Common.{arith}
use Rattle.std.proofs.lemmas.Int.{ints}
use Rattle.script_lang.proofs.Thousandths.{fraction_is}
use Rattle.script_lang.proofs.number.fraction_value.Goals as goal

pub overflow_add-result-2 : goal.overflow_add-result-2
overflow_add-result-2 c = omega (arith, ints)

pub returns : goal.returns
returns c =
    let sum = fraction_is c.args.fraction.now c.digit_at.result c.digit_at-2.result c.digit_at-3.result c.requires c.digit_at.ensures.value c.digit_at-2.ensures.value c.digit_at-3.ensures.value in
    omega (arith, ints, sum)
