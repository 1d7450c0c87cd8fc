use Rattle.std.proofs.Common.{arith}
use Rattle.std.proofs.lemmas.Int.{ints}
use Rattle.domain_core.specs.Domain.{least, greatest}
use Rattle.narrow_core.proofs.Producing.{multiplied_along}
use Rattle.narrow_core.proofs.product.MulEq.multiplied_within.Goals as goal

pub returns-clause-law : goal.returns-clause-law
returns-clause-law c =
    let products = c.args.products.now in
    multiplied_along c.args.self.now.factor c.args.x.now _ _ (least products) (greatest products) c.multiplied.result.0 c.multiplied.result.1
    (omega (arith, ints, c.lo.ensures.least)) (omega (arith, ints, c.hi.ensures.greatest)) c.multiplied.ensures
