-- An object that doesn't fit, or none.
use Rattle.std.proofs.Common.{◌≡◌, ◌≤◌, length, true, pos, refl, subst, sym}
use Rattle.db_resources.specs.Fits.{FitsReservoir}
use Rattle.db_resources.proofs.Fitting.{one_more, all_objects}
use Rattle.db_resources.proofs.fit.each_reservoir_fits.Goals as goal

pub returns-then-not-branch : goal.returns-then-not-branch
returns-then-not-branch g c = (λ told. cc, λ all. let fits : c.in_ok-reservoir_fits.field-0 ≡ true = c.in_ok-reservoir_fits.ensures.1 (all (pos c.loop-number.number)) in let not = c.if-not-branch.true in cc)

pub loop-number-preserved : goal.loop-number-preserved
loop-number-preserved g c =
    one_more (FitsReservoir (g.V.View.model c.args.view.now) (g.V.View.decisions c.args.view.now) (g.V.View.state c.args.view.now)) c.loop-number.number c.loop-number.invariant
    (c.in_ok-reservoir_fits.ensures.0 (let is = c.if-not-branch.false in cc))

pub returns : goal.returns
returns g c =
    let model = g.V.View.model c.args.view.now in
    let fits = FitsReservoir model (g.V.View.decisions c.args.view.now) (g.V.View.state c.args.view.now) in
    let whole : length model.objects ≤ c.loop-number.number =
    subst (λ m. length m.objects ≤ c.loop-number.number) (sym c.requires.model) (subst (λ list. length list ≤ c.loop-number.number) c.as_slice.ensures c.loop-number-test.false) in
    (λ told value object initial low high instant is. all_objects fits model c.loop-number.number whole c.loop-number.invariant value object is object initial low high instant is, λ all. refl)
