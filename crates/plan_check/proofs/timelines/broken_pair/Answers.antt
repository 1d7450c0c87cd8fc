use Rattle.std.proofs.Common.{arith}
use Rattle.plan_check.proofs.Turning.{pair_least, pairs_kept}
use Rattle.plan_check.proofs.timelines.broken_pair.Goals as goal

pub returns-in-Some : goal.returns-in-Some
returns-in-Some c = pair_least c.args.model.now c.args.plan.now c.requires.orderly c.loop-first.first c.in-Some.second c.loop-first.invariant c.in-Some.ensures

pub returns : goal.returns
returns c =
    pairs_kept c.args.model.now c.args.plan.now c.requires.orderly c.loop-first.first (omega (arith, c.loop-first-test.false, c.len-first-end.ensures)) c.loop-first.invariant
