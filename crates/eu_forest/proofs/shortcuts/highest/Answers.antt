use Rattle.std.proofs.Common.{arith}
use Rattle.eu_forest.proofs.Jumping.{begins, ends_climb, goes_on}
use Rattle.eu_forest.proofs.shortcuts.highest.Goals as goal

pub loop-here-init : goal.loop-here-init
loop-here-init c = begins c.args.up.now c.args.shortcuts.now c.args.number c.args.other c.requires.known

pub loop-here-preserved : goal.loop-here-preserved
loop-here-preserved c =
    goes_on c.args.up.now c.args.shortcuts.now c.args.number c.args.other c.loop-here.here c.step_up-here.result c.loop-here.invariant c.step_up-here.ensures

pub loop-here-smaller : goal.loop-here-smaller
loop-here-smaller c = c.step_up-here.ensures.nearer

pub returns : goal.returns
returns c =
    ends_climb c.args.up.now c.args.shortcuts.now c.requires.are c.args.number c.args.other c.loop-here.here c.loop-here.invariant
    (omega (arith, c.loop-here-test.false, c.depth_at.ensures, c.depth_at-in-loop-here.ensures))
