use Rattle.std.proofs.Common.{arith}
use Rattle.std.proofs.lemmas.Int.{ints}
use Rattle.std.proofs.lemmas.Bool.{ltb-true, ltb-false}
use Rattle.domain_core.proofs.Words.{least_is_value, greatest_is_value}
use Rattle.domain_core.specs.Consistency.{Ends}
use Rattle.domain_core.specs.Constraints.{HoldsOf}
use Rattle.domain_core.specs.declared.kind.Kind.TheVariants as kind
use Rattle.narrow_core.proofs.Bounds.{IsDifference, difference_back, sums}
use Rattle.narrow_core.proofs.Supports.{tests_first_of_three, tests_second_of_three, tests_third_of_three}
use Rattle.narrow_core.proofs.sum.AddEqNarrow.supports.Goals as goal

pub returns-in-empty-len2 : goal.returns-in-empty-len2
returns-in-empty-len2 c =
    let y = c.y-item.result in
    let z = c.z-item.result in
    tests_first_of_three Ends (HoldsOf kind.AddEq) (IsDifference y.now z.now) c.args.before.now c.args.after.now y z c.args.own.now c.are_differences.result
    (omega (arith, ltb-true, ltb-false)) (omega (arith, ltb-true, ltb-false)) c.y-item.is c.z-item.is (λ value. (λ some. some, λ some. some)) c.are_differences.ensures

pub returns-in-len1-len1 : goal.returns-in-len1-len1
returns-in-len1-len1 c =
    let x = c.x-item.result in
    let z = c.z-item-then-this-lt2-2.result in
    let kept = c.are_differences-in-len1-len1 in
    tests_second_of_three Ends (HoldsOf kind.AddEq) (IsDifference x.now z.now) c.args.before.now c.args.after.now x z c.args.own.now kept.result
    (omega (arith, ltb-true, ltb-false)) (omega (arith, ltb-true, ltb-false)) c.x-item.is c.z-item-then-this-lt2-2.is (difference_back x.now z.now) kept.ensures

pub returns-in-len2-empty : goal.returns-in-len2-empty
returns-in-len2-empty c =
    let x = c.x-item-then-this-lt1-2.result in
    let y = c.y-item-then-this-lt1-2.result in
    let x_least = least_is_value x.now c.lo.ensures.domain in
    let x_greatest = greatest_is_value x.now c.lo.ensures.domain in
    let y_least = least_is_value y.now c.lo-in-len2-empty.ensures.domain in
    let y_greatest = greatest_is_value y.now c.lo-in-len2-empty.ensures.domain in
    tests_third_of_three Ends (HoldsOf kind.AddEq) _ c.args.before.now c.args.after.now x y c.args.own.now c.lies_between.result
    (omega (arith, ltb-true, ltb-false)) (omega (arith, ltb-true, ltb-false)) c.x-item-then-this-lt1-2.is c.y-item-then-this-lt1-2.is
    (λ value. sums x.now y.now _ _ value c.lo.ensures.domain c.lo-in-len2-empty.ensures.domain
    (omega (arith, ints, c.lo.ensures.least, c.lo-in-len2-empty.ensures.least, x_least.0, x_least.1, y_least.0, y_least.1))
    (omega (arith, ints, c.hi.ensures.greatest, c.hi-in-len2-empty.ensures.greatest, x_greatest.0, x_greatest.1, y_greatest.0, y_greatest.1)))
    c.lies_between.ensures
