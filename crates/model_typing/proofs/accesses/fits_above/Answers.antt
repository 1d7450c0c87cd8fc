use Rattle.model_typing.specs.Terms.{scope_of}
use Rattle.model_typing.proofs.Accessing.{above_here, above_more, above_less, above_none}
use Rattle.model_typing.proofs.Telling.{told_false, told_not, told_so}
use Rattle.model_typing.proofs.Upward.{fewer_above}
use Rattle.model_typing.proofs.accesses.fits_above.Goals as goal

pub loop-access-preserved : goal.loop-access-preserved
loop-access-preserved c =
    let model = c.args.model.now in
    let scope = scope_of c.args.scope in (
      λ above. c.loop-access.invariant.0 (above_more model scope c.args.access.field c.args.access.value c.loop-access.class c.in-Some.parent c.in-Some.ensures above),
      λ above. above_less model scope c.args.access.field c.args.access.value c.loop-access.class c.in-Some.parent c.in-Some.ensures
          (told_false c.field_fits.result _ c.loop-access-test.true c.field_fits.ensures) (c.loop-access.invariant.1 above),
    )

pub loop-access-smaller : goal.loop-access-smaller
loop-access-smaller c = fewer_above c.args.model.now c.args.parents.now c.requires c.loop-access.class c.in-Some.parent c.in-Some.ensures

pub returns-in-None : goal.returns-in-None
returns-in-None c = told_not _ (λ above.
    above_none c.args.model.now (scope_of c.args.scope) c.args.access.field c.args.access.value c.loop-access.class c.in-None.ensures
    (told_false c.field_fits.result _ c.loop-access-test.true c.field_fits.ensures) (c.loop-access.invariant.1 above))

pub returns : goal.returns
returns c = told_so _ (c.loop-access.invariant.0
    (above_here c.args.model.now (scope_of c.args.scope) c.args.access.field c.args.access.value c.loop-access.class (c.field_fits.ensures.0 c.loop-access-test.false)))
