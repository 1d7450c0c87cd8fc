use Rattle.std.proofs.Common.{take}
use Rattle.db_history.specs.Standing.{KeepsList}
use Rattle.db_history.proofs.forward.go_on_from.Given as goal

abbrev pub invariant-loop-number : goal.invariant-loop-number
invariant-loop-number l = KeepsList l.model (take l.number l.decisions) l.kept
