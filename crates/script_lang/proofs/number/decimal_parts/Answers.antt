use Rattle.std.proofs.Common.{◌≡◌, true, false}
use Rattle.script_lang.proofs.Decimals.{no_decimal, no_point_no_decimal}
use Rattle.script_lang.proofs.number.decimal_parts.Goals as goal
use Rattle.script_lang.proofs.number.decimal_parts.Goals.{else-is_number-via-then-is_number+else-is_fraction, else-is_number-via-else-is_number}

pub returns-else-is_number : goal.returns-else-is_number
returns-else-is_number c =
    no_decimal c.args.word.now c.in-Some.whole.now c.in-Some.fraction.now c.in-Some.ensures (λ number digits.
    elim c.else-is_number.branch [
      | else-is_number-via-then-is_number+else-is_fraction w ↦ let told : false ≡ true = w.if-is_fraction.ensures.1 digits in cc
      | else-is_number-via-else-is_number w ↦ let told : false ≡ true = w.if-is_number.ensures.1 number in cc
    ])

pub returns-in-None : goal.returns-in-None
returns-in-None c = no_point_no_decimal c.args.word.now c.in-None.ensures
