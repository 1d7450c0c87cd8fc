use Rattle.std.proofs.Common.{w32, to_z, of_z, arith}
use Rattle.std.proofs.lemmas.Int.{ints}
use Rattle.std.proofs.lemmas.Bool.{ltb-true, ltb-false}
use Rattle.domain_core.specs.Domain.{least, greatest}
use Rattle.domain_core.specs.Consistency.{Ends}
use Rattle.domain_core.specs.Constraints.{HoldsOf}
use Rattle.domain_core.specs.declared.kind.Kind.TheVariants as kind
use Rattle.narrow_core.proofs.Outcomes.{LowerSide, UpperSide, less_test, at_most_test, order_outcomes}
use Rattle.narrow_core.proofs.Supports.{tests_first_of_three, tests_second_of_three, tests_third_of_three}
use Rattle.narrow_core.proofs.tested.TestLeqNarrow.supports.Goals as goal

pub returns-in-empty-len2 : goal.returns-in-empty-len2
returns-in-empty-len2 c =
    let x = c.x-item.result in
    let y = c.y-item.result in
    tests_first_of_three Ends (HoldsOf kind.TestLeq) _ c.args.before.now c.args.after.now x y c.args.own.now c.are_outcomes.result
    (omega (arith, ltb-true, ltb-false)) (omega (arith, ltb-true, ltb-false)) c.x-item.is c.y-item.is
    (λ value. order_outcomes x.now y.now _ _ value c.lo.ensures.domain c.hi.ensures.domain
    (at_most_test (to_z w32 (of_z w32 c.lo.result)) (to_z w32 (of_z w32 c.hi.result)) (least x.now) (greatest y.now) (omega (arith, ints, c.lo.ensures.least)) (omega (arith, ints, c.hi.ensures.greatest)))
    (less_test (to_z w32 (of_z w32 c.lo-in-empty-len2.result)) (to_z w32 (of_z w32 c.hi-in-empty-len2.result)) (least y.now) (greatest x.now) (omega (arith, ints, c.lo-in-empty-len2.ensures.least)) (omega (arith, ints, c.hi-in-empty-len2.ensures.greatest)))) c.are_outcomes.ensures

pub returns-in-len1-len1 : goal.returns-in-len1-len1
returns-in-len1-len1 c =
    let b = c.b-item.result in
    let y = c.y-item-then-this-lt2-2.result in
    tests_second_of_three Ends (HoldsOf kind.TestLeq) (LowerSide b.now y.now) c.args.before.now c.args.after.now b y c.args.own.now c.lower_stays.result
    (omega (arith, ltb-true, ltb-false)) (omega (arith, ltb-true, ltb-false)) c.b-item.is c.y-item-then-this-lt2-2.is (λ value. (λ some. some, λ some. some)) c.lower_stays.ensures

pub returns-in-len2-empty : goal.returns-in-len2-empty
returns-in-len2-empty c =
    let b = c.b-item-then-this-lt1-2.result in
    let x = c.x-item-then-this-lt1-2.result in
    tests_third_of_three Ends (HoldsOf kind.TestLeq) (UpperSide b.now x.now) c.args.before.now c.args.after.now b x c.args.own.now c.upper_stays.result
    (omega (arith, ltb-true, ltb-false)) (omega (arith, ltb-true, ltb-false)) c.b-item-then-this-lt1-2.is c.x-item-then-this-lt1-2.is (λ value. (λ some. some, λ some. some)) c.upper_stays.ensures
