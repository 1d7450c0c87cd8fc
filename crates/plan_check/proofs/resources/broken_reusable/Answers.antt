use Rattle.std.proofs.Common.{◌≡◌, length, ap, w32, to_z, of_z, arith}
use Rattle.std.proofs.lemmas.Int.{ints}
use Rattle.plan_defs.specs.declared.plan.Place.TheVariants.{Instant}
use Rattle.plan_defs.specs.Valid.{KeepsReusables}
use Rattle.plan_check.proofs.Sorting.{at_all, more_objects, reusable_least, reusables_kept}
use Rattle.plan_check.proofs.resources.broken_reusable.Goals as goal

pub returns-in-Some : goal.returns-in-Some
returns-in-Some c =
    let cast : to_z w32 (of_z w32 c.in-Some.at) ≡ c.in-Some.at = omega (arith, ints) in
    reusable_least c.args.model.now c.args.plan.now c.loop-number.number c.in-Some.at (to_z w32 (of_z w32 c.in-Some.at)) c.in_ok-found.found cast c.in-Some.is c.loop-number.invariant c.in_ok-found.ensures

pub loop-number-preserved : goal.loop-number-preserved
loop-number-preserved c =
    more_objects c.args.model.now c.args.plan.now (KeepsReusables c.args.model.now c.args.plan.now) c.loop-number.number c.loop-number.invariant
    (at_all (λ instant. KeepsReusables c.args.model.now c.args.plan.now (Instant c.loop-number.number instant)) c.in_ok-found.found c.in_default.not-Some c.in_ok-found.ensures)

pub returns : goal.returns
returns c =
    reusables_kept c.args.model.now c.args.plan.now c.loop-number.number (omega (arith, c.loop-number-test.false, ap length c.as_slice-object-items.ensures)) c.loop-number.invariant
