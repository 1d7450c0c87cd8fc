use Rattle.std.proofs.Common.{◌≡◌}
use Rattle.script_lang.proofs.Numerals.{numeral, signed, value_fits}
use Rattle.script_lang.proofs.number.value_of.Goals as goal

pub returns-in_default-3-clause-none : goal.returns-in_default-3-clause-none
returns-in_default-3-clause-none c = λ is.
    let same : c.number_text.result.now ≡ c.args.number.now = c.number_text.ensures in
    c.in_default.ensures.value.0 (
      rw same (numeral c.args.number.now c.requires),
      rw (same, signed c.args.number.now c.requires) (value_fits _ is),
    )
