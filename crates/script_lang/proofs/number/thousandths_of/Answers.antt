use Rattle.std.proofs.Common.{arith}
use Rattle.std.proofs.lemmas.Int.{ints}
use Rattle.script_lang.proofs.Thousandths.{amount_kept, amount_most, amount_more, amount_value, amount_said, sign_inside, units_outside, fraction_below}
use Rattle.script_lang.proofs.number.thousandths_of.Goals as goal

pub overflow_add-amount : goal.overflow_add-amount
overflow_add-amount c =
    let behind = fraction_below c.args.fraction.now c.requires.digits in
    let said = c.in-Some.ensures.some in
    omega (arith, ints, behind, said.1.0, said.1.1, c.fraction_value.ensures)

pub with_sign_of-requires : goal.with_sign_of-requires
with_sign_of-requires c =
    let is = amount_kept c.args.whole.now c.without_minus.result.now c.args.fraction.now c.in-Some.units c.fraction_value.result c.requires.number c.requires.digits c.without_minus.ensures c.in-Some.ensures.some c.fraction_value.ensures in
    amount_value _ _ is (amount_most _ _ is c.if-amount-le-GREATEST_VALUE.true)

pub returns-then-amount-le-GREATEST_VALUE-clause-some : goal.returns-then-amount-le-GREATEST_VALUE-clause-some
returns-then-amount-le-GREATEST_VALUE-clause-some c =
    let is = amount_kept c.args.whole.now c.without_minus.result.now c.args.fraction.now c.in-Some.units c.fraction_value.result c.requires.number c.requires.digits c.without_minus.ensures c.in-Some.ensures.some c.fraction_value.ensures in
    amount_said c.args.whole.now c.with_sign_of.result _ _ (amount_most _ _ is c.if-amount-le-GREATEST_VALUE.true) is c.with_sign_of.ensures

pub returns-else-amount-le-GREATEST_VALUE-clause-none : goal.returns-else-amount-le-GREATEST_VALUE-clause-none
returns-else-amount-le-GREATEST_VALUE-clause-none c = λ inside.
    let is = amount_kept c.args.whole.now c.without_minus.result.now c.args.fraction.now c.in-Some.units c.fraction_value.result c.requires.number c.requires.digits c.without_minus.ensures c.in-Some.ensures.some c.fraction_value.ensures in
    amount_more _ _ is c.if-amount-le-GREATEST_VALUE.false (sign_inside c.args.whole.now _ inside)

pub returns-in-None-clause-none : goal.returns-in-None-clause-none
returns-in-None-clause-none c = units_outside c.args.whole.now c.without_minus.result.now c.args.fraction.now c.requires.number c.without_minus.ensures c.in-None.ensures.none
