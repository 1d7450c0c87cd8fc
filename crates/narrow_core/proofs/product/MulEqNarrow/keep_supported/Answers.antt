use Rattle.std.proofs.Common.{arith}
use Rattle.std.proofs.lemmas.Int.{ints}
use Rattle.std.proofs.lemmas.Bool.{ltb-true, ltb-false}
use Rattle.domain_core.specs.Domain.{least, greatest}
use Rattle.domain_core.specs.Consistency.{Ends}
use Rattle.narrow_core.specs.Meanings.{IsProduct}
use Rattle.narrow_core.proofs.Producing.{IsProductOf, multipliers}
use Rattle.narrow_core.proofs.Supports.{keeps_first_of_two, keeps_second_of_two}
use Rattle.narrow_core.proofs.Times.{quotients_along}
use Rattle.narrow_core.proofs.product.MulEqNarrow.keep_supported.Goals as goal

pub returns-in-empty-len1-clause-kept : goal.returns-in-empty-len1-clause-kept
returns-in-empty-len1-clause-kept c =
    let z = c.z-item.result in
    let factor = c.args.self.now.factor in
    keeps_first_of_two Ends (IsProduct factor) _ c.args.before.now c.args.after.now z c.args.own.now c.meet_range.new.self c.meet_range.result
    (omega (arith, ltb-true, ltb-false)) (omega (arith, ltb-true, ltb-false)) c.z-item.is
    (λ value. multipliers factor z.now _ _ value c.lo.ensures.domain
    (quotients_along _ _ _ factor (least z.now) (greatest z.now) _ _ _ _ (omega (arith, ints)) (omega (arith, ints, c.lo.ensures.least)) (omega (arith, ints, c.hi.ensures.greatest)) (omega (arith, ints)) (omega (arith, ints)) c.quotients-first.ensures value))
    c.meet_range.ensures.kept

pub returns-in-len1-empty-clause-kept : goal.returns-in-len1-empty-clause-kept
returns-in-len1-empty-clause-kept c =
    let x = c.x-item.result in
    let factor = c.args.self.now.factor in
    keeps_second_of_two Ends (IsProduct factor) (IsProductOf factor x.now) c.args.before.now c.args.after.now x c.args.own.now c.keep_products.new.products c.keep_products.result
    (omega (arith, ltb-true, ltb-false)) (omega (arith, ltb-true, ltb-false)) c.x-item.is (λ value. (λ some. some, λ some. some)) c.keep_products.ensures.kept
