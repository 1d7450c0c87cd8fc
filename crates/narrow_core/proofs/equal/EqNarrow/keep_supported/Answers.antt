use Rattle.std.proofs.Common.{arith}
use Rattle.std.proofs.lemmas.Bool.{ltb-true, ltb-false}
use Rattle.domain_core.specs.Domain.{Has}
use Rattle.domain_core.specs.Consistency.{Values}
use Rattle.domain_core.specs.declared.kind.Kind.TheVariants as kind
use Rattle.domain_core.specs.Constraints.{HoldsOf}
use Rattle.narrow_core.proofs.Supports.{keeps_first_of_two, keeps_second_of_two}
use Rattle.narrow_core.proofs.Values.{equal_to_some, some_equal_to}
use Rattle.narrow_core.proofs.equal.EqNarrow.keep_supported.Goals as goal

pub returns-in-empty-len1-clause-kept : goal.returns-in-empty-len1-clause-kept
returns-in-empty-len1-clause-kept c =
    let y = c.other-item.result in
    keeps_first_of_two Values (HoldsOf kind.Eq) (Has y.now) c.args.before.now c.args.after.now y c.args.own.now c.meet_set.new.self c.meet_set.result
    (omega (arith, ltb-true, ltb-false)) (omega (arith, ltb-true, ltb-false)) c.other-item.is (equal_to_some y.now) c.meet_set.ensures.kept

pub returns-in-len1-empty-clause-kept : goal.returns-in-len1-empty-clause-kept
returns-in-len1-empty-clause-kept c =
    let x = c.other-item-then-this-lt1.result in
    let met = c.meet_set-in-len1-empty in
    keeps_second_of_two Values (HoldsOf kind.Eq) (Has x.now) c.args.before.now c.args.after.now x c.args.own.now met.new.self met.result
    (omega (arith, ltb-true, ltb-false)) (omega (arith, ltb-true, ltb-false)) c.other-item-then-this-lt1.is (some_equal_to x.now) met.ensures.kept
