use Rattle.std.proofs.Common.{arith}
use Rattle.std.proofs.lemmas.Bool.{ltb-true, ltb-false}
use Rattle.domain_core.specs.Consistency.{Values}
use Rattle.domain_core.specs.Constraints.{HoldsOf}
use Rattle.domain_core.specs.declared.kind.Kind.TheVariants as kind
use Rattle.narrow_core.proofs.Supports.{keeps_first_of_two, keeps_second_of_two}
use Rattle.narrow_core.proofs.Values.{IsApart, apart_back}
use Rattle.narrow_core.proofs.equal.NeqNarrow.keep_supported.Goals as goal

pub returns-in-empty-len1-clause-kept : goal.returns-in-empty-len1-clause-kept
returns-in-empty-len1-clause-kept c =
    let y = c.other-item.result in
    keeps_first_of_two Values (HoldsOf kind.Neq) (IsApart y.now) c.args.before.now c.args.after.now y c.args.own.now c.keep_apart.new.own c.keep_apart.result
    (omega (arith, ltb-true, ltb-false)) (omega (arith, ltb-true, ltb-false)) c.other-item.is (λ value. (λ some. some, λ some. some)) c.keep_apart.ensures.kept

pub returns-in-len1-empty-clause-kept : goal.returns-in-len1-empty-clause-kept
returns-in-len1-empty-clause-kept c =
    let x = c.other-item-then-this-lt1.result in
    let kept = c.keep_apart-in-len1-empty in
    keeps_second_of_two Values (HoldsOf kind.Neq) (IsApart x.now) c.args.before.now c.args.after.now x c.args.own.now kept.new.own kept.result
    (omega (arith, ltb-true, ltb-false)) (omega (arith, ltb-true, ltb-false)) c.other-item-then-this-lt1.is (apart_back x.now) kept.ensures.kept
