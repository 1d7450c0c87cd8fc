use Rattle.std.proofs.Common.{◌∷◌, ap, ◌∙◌}
use Rattle.eu_name.proofs.Numbers.{front_is_digits, has_number, has_no_number}
use Rattle.eu_name.proofs.reading.marked_number.Goals as goal

pub number-requires : goal.number-requires
number-requires c = front_is_digits c.in_ok-first.after.now _ c.digits_len.result c.digits_len.ensures.len c.split_at.ensures.front

pub returns-in_err-number : goal.returns-in_err-number
returns-in_err-number c = rw c.from_residual-in_err-number.ensures (has_no_number c.args.mark c.args.text.now c.in_ok-first.after.now c.split_at.result.0.now c.digits_len.result (c.in_ok-first.ensures.cases.0 ∙ ap (λ byte. byte ∷ c.in_ok-first.after.now) c.if-first-mark.false) c.digits_len.ensures.len c.split_at.ensures.front c.in_err-number.ensures.none)

pub returns : goal.returns
returns c = has_number c.args.mark c.args.text.now c.in_ok-first.after.now c.split_at.result.0.now c.split_at.result.1.now c.digits_len.result c.in_ok-number.field-0 (c.in_ok-first.ensures.cases.0 ∙ ap (λ byte. byte ∷ c.in_ok-first.after.now) c.if-first-mark.false) c.digits_len.ensures.len c.split_at.ensures.front c.split_at.ensures.back c.in_ok-number.ensures.some
