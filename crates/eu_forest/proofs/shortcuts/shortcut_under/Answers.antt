use Rattle.std.proofs.Common.{arith, refl, sym}
use Rattle.eu_forest.proofs.Jumping.{few_deep, goes_under}
use Rattle.eu_forest.proofs.shortcuts.shortcut_under.Goals as goal

pub deeper-depth-requires : goal.deeper-depth-requires
deeper-depth-requires c =
    omega (arith, few_deep c.args.up.now c.args.shortcuts.now c.requires c.args.parent c.in_ok-above.above (sym c.in_ok-above.ensures))

pub returns : goal.returns
returns c = record {
  above = c.in_ok-above.above;
  known = sym c.in_ok-above.ensures;
  deeper = c.deeper-depth.ensures;
  higher = goes_under c.args.up.now c.args.shortcuts.now c.requires c.args.parent c.jump_under-jump.result c.jump_under-jump.ensures;
  same = refl;
}
