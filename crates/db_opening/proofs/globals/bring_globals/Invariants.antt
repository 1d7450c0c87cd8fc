use Rattle.std.proofs.Common.{take}
use Rattle.db_opening.specs.Bringing.{BringsKeys}
use Rattle.db_opening.specs.Beginning.{WantsGlobal}
use Rattle.db_opening.proofs.globals.bring_globals.Given as goal

abbrev pub invariant-loop-number : goal.invariant-loop-number
invariant-loop-number l = BringsKeys (WantsGlobal (take l.number l.globals)) l.initial.store l.store
