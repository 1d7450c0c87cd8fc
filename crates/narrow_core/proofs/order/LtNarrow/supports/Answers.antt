use Rattle.std.proofs.Common.{arith}
use Rattle.std.proofs.lemmas.Int.{ints}
use Rattle.std.proofs.lemmas.Bool.{ltb-true, ltb-false}
use Rattle.domain_core.proofs.Words.{least_is_value, greatest_is_value}
use Rattle.domain_core.specs.Consistency.{Ends}
use Rattle.domain_core.specs.Constraints.{HoldsOf}
use Rattle.domain_core.specs.declared.kind.Kind.TheVariants as kind
use Rattle.narrow_core.proofs.Bounds.{less_than_some, more_than_some}
use Rattle.narrow_core.proofs.Supports.{tests_first_of_two, tests_second_of_two}
use Rattle.narrow_core.proofs.order.LtNarrow.supports.Goals as goal

pub returns-in-empty-len1 : goal.returns-in-empty-len1
returns-in-empty-len1 c =
    let y = c.y-item.result.now in
    let value = greatest_is_value y c.hi.ensures.domain in
    tests_first_of_two Ends (HoldsOf kind.Lt) _ c.args.before.now c.args.after.now c.y-item.result c.args.own.now c.lies_up_to.result
    (omega (arith, ltb-true, ltb-false)) (omega (arith, ltb-true, ltb-false)) c.y-item.is (λ value_of. less_than_some y _ value_of c.hi.ensures.domain (omega (arith, ints, c.hi.ensures.greatest, value.0, value.1))) c.lies_up_to.ensures

pub returns-in-len1-empty : goal.returns-in-len1-empty
returns-in-len1-empty c =
    let x = c.x-item.result.now in
    let value = least_is_value x c.lo.ensures.domain in
    tests_second_of_two Ends (HoldsOf kind.Lt) _ c.args.before.now c.args.after.now c.x-item.result c.args.own.now c.lies_from.result
    (omega (arith, ltb-true, ltb-false)) (omega (arith, ltb-true, ltb-false)) c.x-item.is (λ value_of. more_than_some x _ value_of c.lo.ensures.domain (omega (arith, ints, c.lo.ensures.least, value.0, value.1))) c.lies_from.ensures
