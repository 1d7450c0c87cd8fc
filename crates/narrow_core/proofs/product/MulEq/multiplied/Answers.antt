use Rattle.std.proofs.Common.{refl, arith}
use Rattle.std.proofs.lemmas.Int.{ints}
use Rattle.narrow_core.proofs.Times.{quotients_along}
use Rattle.narrow_core.proofs.Bounds.{from_greater, upto_less}
use Rattle.narrow_core.proofs.product.MulEq.multiplied.Goals as goal

pub returns : goal.returns
returns c = λ value.
    let law = quotients_along _ _ _ c.args.self.now.factor c.args.low c.args.high _ _ c.quotients-first.result.0 c.quotients-first.result.1 (omega (arith, ints)) (omega (arith, ints)) (omega (arith, ints)) refl refl c.quotients-first.ensures value in
    let more = c.greater.ensures in
    let less = c.less.ensures in (
      λ within.
          let inner = law.0 (omega (arith, ints, within.0, more.a), omega (arith, ints, within.1, less.a)) in
          ((omega (arith, ints, within.0, more.b, c.lo.ensures.least), omega (arith, ints, within.1, less.b, c.hi.ensures.greatest)), inner.0, inner.1),
      λ within.
          let inner = law.1 (within.1, within.2) in
          let from = from_greater c.greater.result _ _ value more.is_one (omega (arith, ints, inner.0)) (omega (arith, ints, within.0.0, c.lo.ensures.least)) in
          let upto = upto_less c.less.result _ _ value less.is_one (omega (arith, ints, inner.1)) (omega (arith, ints, within.0.1, c.hi.ensures.greatest)) in
          (omega (arith, ints, from), omega (arith, ints, upto)),
    )
