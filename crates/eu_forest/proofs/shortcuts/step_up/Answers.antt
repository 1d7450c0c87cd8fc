use Rattle.std.proofs.Common.{arith}
use Rattle.eu_forest.proofs.Jumping.{jump_steps, no_parent, parent_steps}
use Rattle.eu_forest.proofs.shortcuts.step_up.Goals as goal

pub returns-then-depth_at : goal.returns-then-depth_at
returns-then-depth_at c =
    jump_steps c.args.up.now c.args.shortcuts.now c.requires.are c.args.here c.args.other c.jump_at-jump.result c.requires.deeper c.jump_at-jump.ensures
    (omega (arith, c.if-depth_at.true, c.depth_at.ensures, c.depth_at-2.ensures))

pub returns-in-Some : goal.returns-in-Some
returns-in-Some c =
    parent_steps c.args.up.now c.args.shortcuts.now c.requires.are c.args.here c.args.other c.in-Some.parent c.requires.deeper c.in-Some.ensures

pub returns-in-None : goal.returns-in-None
returns-in-None c =
    absurd (no_parent c.args.up.now c.args.shortcuts.now c.requires.are c.args.here c.args.other c.requires.deeper c.in-None.ensures)
