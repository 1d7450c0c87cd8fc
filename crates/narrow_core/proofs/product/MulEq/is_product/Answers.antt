use Rattle.std.proofs.Common.{w32, to_z, of_z, arith}
use Rattle.std.proofs.lemmas.Int.{ints}
use Rattle.narrow_core.proofs.Outcomes.{at_most_test}
use Rattle.narrow_core.proofs.Producing.{multiplied_along, is_product}
use Rattle.narrow_core.proofs.product.MulEq.is_product.Goals as goal

pub returns : goal.returns
returns c =
    let ends = c.multiplied-first.result in
    let value = c.args.value in
    let factor = c.args.self.now.factor in
    let both = is_product factor c.args.x.now value ends.0 ends.1
    (multiplied_along factor c.args.x.now _ _ value value ends.0 ends.1 (omega (arith, ints)) (omega (arith, ints)) c.multiplied-first.ensures) in
    let test = at_most_test (to_z w32 (of_z w32 ends.0)) (to_z w32 (of_z w32 ends.1)) ends.0 ends.1 (omega (arith, ints)) (omega (arith, ints)) in
    (λ yes. both.0 (test.0 yes), λ some. test.1 (both.1 some))
