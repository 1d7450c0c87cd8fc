use Rattle.std.proofs.Common.{arith}
use Rattle.std.proofs.lemmas.Int.{ints}
use Rattle.std.proofs.lemmas.Bool.{ltb-true, ltb-false}
use Rattle.domain_core.specs.Domain.{least, greatest}
use Rattle.domain_core.specs.Consistency.{Ends}
use Rattle.narrow_core.specs.Meanings.{IsProduct}
use Rattle.narrow_core.proofs.Producing.{IsProductOf, multipliers}
use Rattle.narrow_core.proofs.Supports.{tests_first_of_two, tests_second_of_two}
use Rattle.narrow_core.proofs.Times.{quotients_along}
use Rattle.narrow_core.proofs.product.MulEqNarrow.supports.Goals as goal

pub returns-in-empty-len1 : goal.returns-in-empty-len1
returns-in-empty-len1 c =
    let z = c.z-item.result in
    let factor = c.args.self.now.factor in
    tests_first_of_two Ends (IsProduct factor) _ c.args.before.now c.args.after.now z c.args.own.now c.lies_between.result
    (omega (arith, ltb-true, ltb-false)) (omega (arith, ltb-true, ltb-false)) c.z-item.is
    (λ value. multipliers factor z.now _ _ value c.lo.ensures.domain
    (quotients_along _ _ _ factor (least z.now) (greatest z.now) _ _ _ _ (omega (arith, ints)) (omega (arith, ints, c.lo.ensures.least)) (omega (arith, ints, c.hi.ensures.greatest)) (omega (arith, ints)) (omega (arith, ints)) c.quotients-first.ensures value))
    c.lies_between.ensures

pub returns-in-len1-empty : goal.returns-in-len1-empty
returns-in-len1-empty c =
    let x = c.x-item.result in
    let factor = c.args.self.now.factor in
    tests_second_of_two Ends (IsProduct factor) (IsProductOf factor x.now) c.args.before.now c.args.after.now x c.args.own.now c.are_products.result
    (omega (arith, ltb-true, ltb-false)) (omega (arith, ltb-true, ltb-false)) c.x-item.is (λ value. (λ some. some, λ some. some)) c.are_products.ensures
