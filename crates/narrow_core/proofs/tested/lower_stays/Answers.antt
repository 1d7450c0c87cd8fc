use Rattle.std.proofs.Common.{refl, arith}
use Rattle.std.proofs.lemmas.Int.{ints}
use Rattle.domain_core.proofs.Words.{least_is_value}
use Rattle.narrow_core.proofs.Outcomes.{LowerSide, lower_holds, lower_fails, lower_open}
use Rattle.narrow_core.proofs.Supports.{tests_along}
use Rattle.narrow_core.proofs.tested.lower_stays.Goals as goal

pub returns-in-Holds : goal.returns-in-Holds
returns-in-Holds c =
    let truth = c.args.truth.now in
    let upper = c.args.upper.now in
    tests_along _ (LowerSide truth upper) c.args.own.now _
    (λ value. lower_holds truth upper _ value c.in-Holds.ensures.domain c.lo-least.ensures.domain c.in-Holds.ensures.says (omega (arith, ints, c.hi.ensures.greatest))) c.lies_up_to.ensures

pub returns-in-Fails : goal.returns-in-Fails
returns-in-Fails c =
    let truth = c.args.truth.now in
    let upper = c.args.upper.now in
    let value_is = least_is_value upper c.lo-least.ensures.domain in
    tests_along _ (LowerSide truth upper) c.args.own.now _
    (λ value. lower_fails truth upper _ value c.in-Fails.ensures.domain c.lo-least.ensures.domain (λ one. let reached = c.reaches_one.ensures.1 one in absurd (cc (reached, c.in-Fails.ensures.says)))
    (omega (arith, ints, c.lo-least.ensures.least, value_is.0, value_is.1))) c.lies_from.ensures

pub returns-in-Open : goal.returns-in-Open
returns-in-Open c = (
  λ _ value tested. lower_open c.args.truth.now c.args.upper.now value c.in-Open.ensures.domain c.lo-least.ensures.domain (c.reaches_one.ensures.0 c.in-Open.ensures.says.0) c.in-Open.ensures.says.1,
  λ _. refl,
)
