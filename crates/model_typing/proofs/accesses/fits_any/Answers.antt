use Rattle.std.proofs.Common.{arith, below_more}
use Rattle.eu_name.proofs.Members.{get_below}
use Rattle.model_typing.proofs.Telling.{never, told_not}
use Rattle.model_typing.proofs.accesses.fits_any.Goals as goal

pub returns : goal.returns
returns c = told_not _ (λ any.
    let field = any.2.has_field in
    let below = get_below c.args.model.now.classes any.0 field.0 field.1 in
    c.loop-class.invariant any.0 (omega (arith, below, c.loop-class-test.false, c.len-class-end.ensures)) any.2)

pub loop-class-preserved : goal.loop-class-preserved
loop-class-preserved c = below_more _ _ c.loop-class.invariant (never _ c.if-field_fits.ensures)
