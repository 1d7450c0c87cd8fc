use Rattle.std.proofs.Common.{refl, arith}
use Rattle.std.proofs.lemmas.Int.{ints}
use Rattle.domain_core.proofs.Words.{greatest_is_value}
use Rattle.narrow_core.proofs.Outcomes.{UpperSide, upper_holds, upper_fails, upper_open}
use Rattle.narrow_core.proofs.Supports.{keeps_along}
use Rattle.narrow_core.proofs.tested.keep_upper.Goals as goal

pub returns-in-Holds-clause-kept : goal.returns-in-Holds-clause-kept
returns-in-Holds-clause-kept c =
    let truth = c.args.truth.now in
    let lower = c.args.lower.now in
    keeps_along _ (UpperSide truth lower) c.args.own.now c.keep_from.new.domain c.keep_from.result
    (λ value. upper_holds truth lower _ value c.in-Holds.ensures.domain c.lo-least.ensures.domain c.in-Holds.ensures.says (omega (arith, ints, c.lo-least.ensures.least))) c.keep_from.ensures.kept

pub returns-in-Fails-clause-kept : goal.returns-in-Fails-clause-kept
returns-in-Fails-clause-kept c =
    let truth = c.args.truth.now in
    let lower = c.args.lower.now in
    let value_is = greatest_is_value lower c.lo-least.ensures.domain in
    keeps_along _ (UpperSide truth lower) c.args.own.now c.keep_up_to.new.domain c.keep_up_to.result
    (λ value. upper_fails truth lower _ value c.in-Fails.ensures.domain c.lo-least.ensures.domain (λ one. let reached = c.reaches_one.ensures.1 one in absurd (cc (reached, c.in-Fails.ensures.says)))
    (omega (arith, ints, c.hi.ensures.greatest, value_is.0, value_is.1))) c.keep_up_to.ensures.kept

pub returns-in-Open-clause-kept : goal.returns-in-Open-clause-kept
returns-in-Open-clause-kept c = (
  refl,
  λ value tested. upper_open c.args.truth.now c.args.lower.now value c.in-Open.ensures.domain c.lo-least.ensures.domain (c.reaches_one.ensures.0 c.in-Open.ensures.says.0) c.in-Open.ensures.says.1,
)
