use Rattle.std.proofs.Common.{sym}
use Rattle.eu_forest.proofs.Jumping.{ends_there}
use Rattle.eu_forest.proofs.shortcuts.root_at.Goals as goal

pub returns : goal.returns
returns c = ends_there c.args.up.now c.args.shortcuts.now c.requires c.args.number c.in_ok-shortcut.shortcut (sym c.in_ok-shortcut.ensures)
