use Rattle.std.proofs.Common.{arith}
use Rattle.std.proofs.lemmas.Bool.{ltb-true, ltb-false}
use Rattle.domain_core.specs.Consistency.{Values}
use Rattle.domain_core.specs.Constraints.{HoldsOf}
use Rattle.domain_core.specs.declared.kind.Kind.TheVariants as kind
use Rattle.narrow_core.proofs.Supports.{tests_first_of_two, tests_second_of_two}
use Rattle.narrow_core.proofs.Values.{IsApart, apart_back}
use Rattle.narrow_core.proofs.equal.NeqNarrow.supports.Goals as goal

pub returns-in-empty-len1 : goal.returns-in-empty-len1
returns-in-empty-len1 c =
    let y = c.other-item.result in
    tests_first_of_two Values (HoldsOf kind.Neq) (IsApart y.now) c.args.before.now c.args.after.now y c.args.own.now c.lies_apart.result
    (omega (arith, ltb-true, ltb-false)) (omega (arith, ltb-true, ltb-false)) c.other-item.is (λ value. (λ some. some, λ some. some)) c.lies_apart.ensures

pub returns-in-len1-empty : goal.returns-in-len1-empty
returns-in-len1-empty c =
    let x = c.other-item-then-this-lt1.result in
    let kept = c.lies_apart-in-len1-empty in
    tests_second_of_two Values (HoldsOf kind.Neq) (IsApart x.now) c.args.before.now c.args.after.now x c.args.own.now kept.result
    (omega (arith, ltb-true, ltb-false)) (omega (arith, ltb-true, ltb-false)) c.other-item-then-this-lt1.is (apart_back x.now) kept.ensures
