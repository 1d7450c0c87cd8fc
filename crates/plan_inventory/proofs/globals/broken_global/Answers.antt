use Rattle.std.proofs.Common.{below_more, arith}
use Rattle.plan_inventory.proofs.Finding.{global_least, globals_kept}
use Rattle.plan_inventory.proofs.globals.broken_global.Goals as goal

pub returns-then-not-is_global_kept : goal.returns-then-not-is_global_kept
returns-then-not-is_global_kept c =
    global_least c.args.model.now c.args.plan.now c.loop-number.number (omega (arith, c.loop-number-test.true, c.len-number-end.ensures)) c.if-not-is_global_kept.ensures c.loop-number.invariant

pub loop-number-preserved : goal.loop-number-preserved
loop-number-preserved c = below_more _ _ c.loop-number.invariant c.if-not-is_global_kept.ensures

pub returns : goal.returns
returns c = globals_kept c.args.model.now c.args.plan.now c.loop-number.number (omega (arith, c.loop-number-test.false, c.len-number-end.ensures)) c.loop-number.invariant
