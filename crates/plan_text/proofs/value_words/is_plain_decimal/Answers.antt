use Rattle.std.proofs.Common.{refl}
use Rattle.plan_text.proofs.Decimals.{decimal_cut, no_whole, no_decimal}
use Rattle.plan_text.proofs.Points.{false_never}
use Rattle.plan_text.specs.Values.{IsPlainDecimal}
use Rattle.plan_text.proofs.value_words.is_plain_decimal.Goals as goal

pub returns-then-is_plain_number : goal.returns-then-is_plain_number
returns-then-is_plain_number c =
    decimal_cut c.args.word.now c.in-Some.whole.now c.in-Some.digits.now c.are_three_digits.result c.in-Some.ensures (c.if-is_plain_number.ensures.0 refl) c.are_three_digits.ensures

pub returns-else-is_plain_number : goal.returns-else-is_plain_number
returns-else-is_plain_number c =
    no_whole c.args.word.now c.in-Some.whole.now c.in-Some.digits.now c.is_plain_number.result c.in-Some.ensures c.is_plain_number.ensures c.if-is_plain_number.false

pub returns-in-None : goal.returns-in-None
returns-in-None c = false_never (IsPlainDecimal c.args.word.now) (no_decimal c.args.word.now c.in-None.ensures)
