use Rattle.std.proofs.Common.{arith}
use Rattle.std.proofs.lemmas.Bool.{ltb-true, ltb-false}
use Rattle.domain_core.specs.Consistency.{Values}
use Rattle.domain_core.specs.Constraints.{HoldsOf}
use Rattle.domain_core.specs.declared.kind.Kind.TheVariants as kind
use Rattle.narrow_core.specs.Truths.{PassesTest}
use Rattle.narrow_core.proofs.Outcomes.{EqualSide, equal_back, equality_outcomes}
use Rattle.narrow_core.proofs.Supports.{tests_first_of_three, tests_second_of_three, tests_third_of_three}
use Rattle.narrow_core.proofs.tested.TestEqNarrow.supports.Goals as goal

pub returns-in-empty-len2 : goal.returns-in-empty-len2
returns-in-empty-len2 c =
    let x = c.x-item.result in
    let y = c.y-item.result in
    tests_first_of_three Values (HoldsOf kind.TestEq) (PassesTest c.has_common.result c.may_differ.result) c.args.before.now c.args.after.now x y c.args.own.now c.are_outcomes.result
    (omega (arith, ltb-true, ltb-false)) (omega (arith, ltb-true, ltb-false)) c.x-item.is c.y-item.is
    (λ value. equality_outcomes x.now y.now c.has_common.result c.may_differ.result value c.has_common.ensures c.may_differ.ensures) c.are_outcomes.ensures

pub returns-in-len1-len1 : goal.returns-in-len1-len1
returns-in-len1-len1 c =
    let b = c.b-item.result in
    let y = c.y-item-then-this-lt2-2.result in
    tests_second_of_three Values (HoldsOf kind.TestEq) (EqualSide b.now y.now) c.args.before.now c.args.after.now b y c.args.own.now c.side_stays.result
    (omega (arith, ltb-true, ltb-false)) (omega (arith, ltb-true, ltb-false)) c.b-item.is c.y-item-then-this-lt2-2.is (λ value. (λ some. some, λ some. some)) c.side_stays.ensures

pub returns-in-len2-empty : goal.returns-in-len2-empty
returns-in-len2-empty c =
    let b = c.b-item-then-this-lt1-2.result in
    let x = c.x-item-then-this-lt1-2.result in
    let kept = c.side_stays-in-len2-empty in
    tests_third_of_three Values (HoldsOf kind.TestEq) (EqualSide b.now x.now) c.args.before.now c.args.after.now b x c.args.own.now kept.result
    (omega (arith, ltb-true, ltb-false)) (omega (arith, ltb-true, ltb-false)) c.b-item-then-this-lt1-2.is c.x-item-then-this-lt1-2.is (equal_back b.now x.now) kept.ensures
