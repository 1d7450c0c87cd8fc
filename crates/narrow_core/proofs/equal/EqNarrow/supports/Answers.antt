use Rattle.std.proofs.Common.{arith}
use Rattle.std.proofs.lemmas.Bool.{ltb-true, ltb-false}
use Rattle.domain_core.specs.Domain.{Has}
use Rattle.domain_core.specs.Consistency.{Values}
use Rattle.domain_core.specs.declared.kind.Kind.TheVariants as kind
use Rattle.domain_core.specs.Constraints.{HoldsOf}
use Rattle.narrow_core.proofs.Supports.{tests_first_of_two, tests_second_of_two}
use Rattle.narrow_core.proofs.Values.{equal_to_some, some_equal_to}
use Rattle.narrow_core.proofs.equal.EqNarrow.supports.Goals as goal

pub returns-in-empty-len1 : goal.returns-in-empty-len1
returns-in-empty-len1 c =
    let y = c.other-item.result in
    tests_first_of_two Values (HoldsOf kind.Eq) (Has y.now) c.args.before.now c.args.after.now y c.args.own.now c.lies_in.result
    (omega (arith, ltb-true, ltb-false)) (omega (arith, ltb-true, ltb-false)) c.other-item.is (equal_to_some y.now) c.lies_in.ensures

pub returns-in-len1-empty : goal.returns-in-len1-empty
returns-in-len1-empty c =
    let x = c.other-item-then-this-lt1.result in
    let met = c.lies_in-in-len1-empty in
    tests_second_of_two Values (HoldsOf kind.Eq) (Has x.now) c.args.before.now c.args.after.now x c.args.own.now met.result
    (omega (arith, ltb-true, ltb-false)) (omega (arith, ltb-true, ltb-false)) c.other-item-then-this-lt1.is (some_equal_to x.now) met.ensures
