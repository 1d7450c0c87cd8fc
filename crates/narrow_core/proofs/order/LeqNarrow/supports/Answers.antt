use Rattle.std.proofs.Common.{arith}
use Rattle.std.proofs.lemmas.Int.{ints}
use Rattle.std.proofs.lemmas.Bool.{ltb-true, ltb-false}
use Rattle.domain_core.specs.Consistency.{Ends}
use Rattle.domain_core.specs.declared.kind.Kind.TheVariants as kind
use Rattle.domain_core.specs.Constraints.{HoldsOf}
use Rattle.narrow_core.proofs.Bounds.{below_some, above_some}
use Rattle.narrow_core.proofs.Supports.{tests_first_of_two, tests_second_of_two}
use Rattle.narrow_core.proofs.order.LeqNarrow.supports.Goals as goal

pub returns-in-empty-len1 : goal.returns-in-empty-len1
returns-in-empty-len1 c =
    tests_first_of_two Ends (HoldsOf kind.Leq) _ c.args.before.now c.args.after.now c.y-item.result c.args.own.now c.lies_up_to.result
    (omega (arith, ltb-true, ltb-false)) (omega (arith, ltb-true, ltb-false)) c.y-item.is (λ value. below_some c.y-item.result.now _ value c.hi.ensures.domain (omega (arith, ints, c.hi.ensures.greatest))) c.lies_up_to.ensures

pub returns-in-len1-empty : goal.returns-in-len1-empty
returns-in-len1-empty c =
    tests_second_of_two Ends (HoldsOf kind.Leq) _ c.args.before.now c.args.after.now c.x-item.result c.args.own.now c.lies_from.result
    (omega (arith, ltb-true, ltb-false)) (omega (arith, ltb-true, ltb-false)) c.x-item.is (λ value. above_some c.x-item.result.now _ value c.lo.ensures.domain (omega (arith, ints, c.lo.ensures.least))) c.lies_from.ensures
