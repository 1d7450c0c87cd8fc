use Rattle.std.proofs.Common.{arith}
use Rattle.std.proofs.lemmas.Int.{ints}
use Rattle.std.proofs.lemmas.Bool.{ltb-true, ltb-false}
use Rattle.domain_core.specs.Consistency.{Ends}
use Rattle.domain_core.specs.declared.kind.Kind.TheVariants as kind
use Rattle.domain_core.specs.Constraints.{HoldsOf}
use Rattle.narrow_core.proofs.Bounds.{below_some, above_some}
use Rattle.narrow_core.proofs.Supports.{keeps_first_of_two, keeps_second_of_two}
use Rattle.narrow_core.proofs.order.LeqNarrow.keep_supported.Goals as goal

pub returns-in-empty-len1-clause-kept : goal.returns-in-empty-len1-clause-kept
returns-in-empty-len1-clause-kept c =
    keeps_first_of_two Ends (HoldsOf kind.Leq) _ c.args.before.now c.args.after.now c.y-item.result c.args.own.now c.keep_up_to.new.domain c.keep_up_to.result
    (omega (arith, ltb-true, ltb-false)) (omega (arith, ltb-true, ltb-false)) c.y-item.is (λ value. below_some c.y-item.result.now _ value c.hi.ensures.domain (omega (arith, ints, c.hi.ensures.greatest))) c.keep_up_to.ensures.kept

pub returns-in-len1-empty-clause-kept : goal.returns-in-len1-empty-clause-kept
returns-in-len1-empty-clause-kept c =
    keeps_second_of_two Ends (HoldsOf kind.Leq) _ c.args.before.now c.args.after.now c.x-item.result c.args.own.now c.keep_from.new.domain c.keep_from.result
    (omega (arith, ltb-true, ltb-false)) (omega (arith, ltb-true, ltb-false)) c.x-item.is (λ value. above_some c.x-item.result.now _ value c.lo.ensures.domain (omega (arith, ints, c.lo.ensures.least))) c.keep_from.ensures.kept
