use Rattle.std.proofs.Common.{neg_ℤ, arith}
use Rattle.std.proofs.lemmas.Int.{ints}
use Rattle.narrow_core.proofs.Times.{between_up, between_down, quotient_along}
use Rattle.narrow_core.proofs.product.quotients.Goals as goal

pub returns-then-factor-gt0 : goal.returns-then-factor-gt0
returns-then-factor-gt0 c = λ x.
    between_up c.args.factor c.args.low c.args.high c.quotient.result c.quotient-then-factor-gt0.result _ _ x
    (quotient_along _ _ (neg_ℤ c.args.low) c.args.factor _ c.quotient.result (omega (arith, ints)) (omega (arith, ints)) (omega (arith, ints)) c.quotient.ensures.greatest)
    (quotient_along _ _ c.args.high c.args.factor _ c.quotient-then-factor-gt0.result (omega (arith, ints)) (omega (arith, ints)) (omega (arith, ints)) c.quotient-then-factor-gt0.ensures.greatest)
    (omega (arith, ints)) (omega (arith, ints))

pub returns-else-factor-gt0 : goal.returns-else-factor-gt0
returns-else-factor-gt0 c = λ x.
    between_down c.args.factor c.args.low c.args.high c.quotient-else-factor-gt0.result c.quotient-else-factor-gt0-2.result _ _ x
    (quotient_along _ _ c.args.high (neg_ℤ c.args.factor) _ c.quotient-else-factor-gt0.result (omega (arith, ints)) (omega (arith, ints)) (omega (arith, ints)) c.quotient-else-factor-gt0.ensures.greatest)
    (quotient_along _ _ (neg_ℤ c.args.low) (neg_ℤ c.args.factor) _ c.quotient-else-factor-gt0-2.result (omega (arith, ints)) (omega (arith, ints)) (omega (arith, ints)) c.quotient-else-factor-gt0-2.ensures.greatest)
    (omega (arith, ints)) (omega (arith, ints))
