use Rattle.std.proofs.Common.{length, ap, arith}
use Rattle.plan_inventory.proofs.Sweeping.{open_least, all_open_kept}
use Rattle.plan_inventory.proofs.open.broken_open.Goals as goal

pub returns-in-Some : goal.returns-in-Some
returns-in-Some c = open_least c.args.model.now c.args.plan.now c.loop-place.place c.in-Some.found c.loop-place.invariant c.in-Some.ensures

pub returns : goal.returns
returns c =
    all_open_kept c.args.model.now c.args.plan.now c.loop-place.place (omega (arith, c.loop-place-test.false, ap length c.as_slice-line-items.ensures)) c.loop-place.invariant
