use Rattle.std.proofs.Common.{sym}
use Rattle.eu_forest.proofs.Jumping.{tells}
use Rattle.eu_forest.proofs.shortcuts.climb.Goals as goal

pub highest-requires-clause-known : goal.highest-requires-clause-known
highest-requires-clause-known c = (_, sym c.in-Some.ensures)

pub returns-in-Some : goal.returns-in-Some
returns-in-Some c =
    tells c.args.up.now c.args.shortcuts.now c.requires c.args.number c.args.other c.highest.result (_, sym c.in-Some.ensures) c.highest.ensures
