use Rattle.std.proofs.Common.{◌≡◌, replicate, None}
use Rattle.eu_forest.proofs.shortcuts.no_shortcuts.Given as goal

abbrev pub invariant-loop : goal.invariant-loop
invariant-loop l = l.shortcuts.items ≡ replicate l.counter None
