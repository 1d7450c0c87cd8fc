use Rattle.std.proofs.Common.{FitsSigned, w32, rules, refl, inr}
use Rattle.script_lang.specs.Number.{thousandths}
use Rattle.script_lang.proofs.Thousandths.{stands_for}
use Rattle.script_lang.proofs.saying.thousandths_said.Goals as goal

pub returns-in-Some : goal.returns-in-Some
returns-in-Some c =
    let whole = c.in-Some.whole.now in
    let fraction = c.in-Some.fraction.now in
    let fits : FitsSigned w32 c.or_outside-in-Some.result = search rules in
    let said = c.thousandths_of-in-Some.ensures in
    (thousandths whole fraction, (inr (whole, (fraction, (c.in-Some.ensures, refl))), stands_for c.thousandths_of-in-Some.result c.or_outside-in-Some.result (thousandths whole fraction) fits c.or_outside-in-Some.ensures said.some said.none))
