use Rattle.std.proofs.Common.{refl, arith}
use Rattle.std.proofs.lemmas.Int.{ints}
use Rattle.domain_core.proofs.Words.{greatest_is_value}
use Rattle.narrow_core.proofs.Outcomes.{UpperSide, upper_holds, upper_fails, upper_open}
use Rattle.narrow_core.proofs.Supports.{tests_along}
use Rattle.narrow_core.proofs.tested.upper_stays.Goals as goal

pub returns-in-Holds : goal.returns-in-Holds
returns-in-Holds c =
    let truth = c.args.truth.now in
    let lower = c.args.lower.now in
    tests_along _ (UpperSide truth lower) c.args.own.now _
    (λ value. upper_holds truth lower _ value c.in-Holds.ensures.domain c.lo-least.ensures.domain c.in-Holds.ensures.says (omega (arith, ints, c.lo-least.ensures.least))) c.lies_from.ensures

pub returns-in-Fails : goal.returns-in-Fails
returns-in-Fails c =
    let truth = c.args.truth.now in
    let lower = c.args.lower.now in
    let value_is = greatest_is_value lower c.lo-least.ensures.domain in
    tests_along _ (UpperSide truth lower) c.args.own.now _
    (λ value. upper_fails truth lower _ value c.in-Fails.ensures.domain c.lo-least.ensures.domain (λ one. let reached = c.reaches_one.ensures.1 one in absurd (cc (reached, c.in-Fails.ensures.says)))
    (omega (arith, ints, c.hi.ensures.greatest, value_is.0, value_is.1))) c.lies_up_to.ensures

pub returns-in-Open : goal.returns-in-Open
returns-in-Open c = (
  λ _ value tested. upper_open c.args.truth.now c.args.lower.now value c.in-Open.ensures.domain c.lo-least.ensures.domain (c.reaches_one.ensures.0 c.in-Open.ensures.says.0) c.in-Open.ensures.says.1,
  λ _. refl,
)
