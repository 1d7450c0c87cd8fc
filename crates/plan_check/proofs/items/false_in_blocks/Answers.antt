use Rattle.std.proofs.Common.{length, ap, arith}
use Rattle.plan_check.proofs.Itemizing.{item_found, all_items_kept}
use Rattle.plan_check.proofs.items.false_in_blocks.Goals as goal

pub returns-in-Some : goal.returns-in-Some
returns-in-Some c = item_found c.args.model.now c.args.plan.now c.requires.problem c.loop-place.place c.in-Some.found c.loop-place.invariant c.in-Some.ensures

pub returns : goal.returns
returns c =
    all_items_kept c.args.model.now c.args.plan.now c.requires.problem c.loop-place.place (omega (arith, c.loop-place-test.false, ap length c.as_slice-line-items.ensures)) c.loop-place.invariant
