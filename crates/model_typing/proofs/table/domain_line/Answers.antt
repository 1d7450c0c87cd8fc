use Rattle.model_core.specs.Kinds.{IsObjectOf}
use Rattle.model_typing.proofs.Each.{all_so, none_yet, so_all, so_less, so_more}
use Rattle.std.proofs.Common.{arith}
use Rattle.model_typing.proofs.table.domain_line.Goals as goal

pub loop-place-init : goal.loop-place-init
loop-place-init c = λ class. (λ so. tt, λ on. none_yet c.args.domain.now (IsObjectOf c.args.model.now class))

pub loop-place-preserved : goal.loop-place-preserved
loop-place-preserved c = λ class.
    let domain = c.args.domain.now in
    let P = IsObjectOf c.args.model.now class in
    let place = c.loop-place.place in (
      λ so. (c.joined_at-line.ensures class).0 ((c.loop-place.invariant class).0 (so_less domain P place so), λ value at. so place value (omega arith) at),
      λ on. let both = (c.joined_at-line.ensures class).1 on in so_more domain P place ((c.loop-place.invariant class).1 both.0) both.1,
    )

pub returns : goal.returns
returns c = λ class.
    let domain = c.args.domain.now in
    let P = IsObjectOf c.args.model.now class in
    let counted = c.count-place-end.ensures in
    let place = c.loop-place.place in (
      λ all. (c.loop-place.invariant class).0 (so_all domain P place counted.domain all),
      λ on. all_so domain P place counted.domain (omega (arith, counted.count, c.loop-place-test.false)) ((c.loop-place.invariant class).1 on),
    )
