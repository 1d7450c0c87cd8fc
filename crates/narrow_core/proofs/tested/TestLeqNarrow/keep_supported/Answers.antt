use Rattle.std.proofs.Common.{w32, to_z, of_z, arith}
use Rattle.std.proofs.lemmas.Int.{ints}
use Rattle.std.proofs.lemmas.Bool.{ltb-true, ltb-false}
use Rattle.domain_core.specs.Domain.{least, greatest}
use Rattle.domain_core.specs.Consistency.{Ends}
use Rattle.domain_core.specs.Constraints.{HoldsOf}
use Rattle.domain_core.specs.declared.kind.Kind.TheVariants as kind
use Rattle.narrow_core.proofs.Outcomes.{LowerSide, UpperSide, less_test, at_most_test, order_outcomes}
use Rattle.narrow_core.proofs.Supports.{keeps_first_of_three, keeps_second_of_three, keeps_third_of_three}
use Rattle.narrow_core.proofs.tested.TestLeqNarrow.keep_supported.Goals as goal

pub returns-in-empty-len2-clause-kept : goal.returns-in-empty-len2-clause-kept
returns-in-empty-len2-clause-kept c =
    let x = c.x-item.result in
    let y = c.y-item.result in
    keeps_first_of_three Ends (HoldsOf kind.TestLeq) _ c.args.before.now c.args.after.now x y c.args.own.now c.keep_outcomes.new.domain c.keep_outcomes.result
    (omega (arith, ltb-true, ltb-false)) (omega (arith, ltb-true, ltb-false)) c.x-item.is c.y-item.is
    (λ value. order_outcomes x.now y.now _ _ value c.lo.ensures.domain c.hi.ensures.domain
    (at_most_test (to_z w32 (of_z w32 c.lo.result)) (to_z w32 (of_z w32 c.hi.result)) (least x.now) (greatest y.now) (omega (arith, ints, c.lo.ensures.least)) (omega (arith, ints, c.hi.ensures.greatest)))
    (less_test (to_z w32 (of_z w32 c.lo-in-empty-len2.result)) (to_z w32 (of_z w32 c.hi-in-empty-len2.result)) (least y.now) (greatest x.now) (omega (arith, ints, c.lo-in-empty-len2.ensures.least)) (omega (arith, ints, c.hi-in-empty-len2.ensures.greatest)))) c.keep_outcomes.ensures.kept

pub returns-in-len1-len1-clause-kept : goal.returns-in-len1-len1-clause-kept
returns-in-len1-len1-clause-kept c =
    let b = c.b-item.result in
    let y = c.y-item-then-this-lt2-2.result in
    keeps_second_of_three Ends (HoldsOf kind.TestLeq) (LowerSide b.now y.now) c.args.before.now c.args.after.now b y c.args.own.now c.keep_lower.new.own c.keep_lower.result
    (omega (arith, ltb-true, ltb-false)) (omega (arith, ltb-true, ltb-false)) c.b-item.is c.y-item-then-this-lt2-2.is (λ value. (λ some. some, λ some. some)) c.keep_lower.ensures.kept

pub returns-in-len2-empty-clause-kept : goal.returns-in-len2-empty-clause-kept
returns-in-len2-empty-clause-kept c =
    let b = c.b-item-then-this-lt1-2.result in
    let x = c.x-item-then-this-lt1-2.result in
    keeps_third_of_three Ends (HoldsOf kind.TestLeq) (UpperSide b.now x.now) c.args.before.now c.args.after.now b x c.args.own.now c.keep_upper.new.own c.keep_upper.result
    (omega (arith, ltb-true, ltb-false)) (omega (arith, ltb-true, ltb-false)) c.b-item-then-this-lt1-2.is c.x-item-then-this-lt1-2.is (λ value. (λ some. some, λ some. some)) c.keep_upper.ensures.kept
