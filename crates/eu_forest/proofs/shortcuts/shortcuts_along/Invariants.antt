use Rattle.eu_forest.specs.Shortcuts.{AreShortcuts}
use Rattle.eu_forest.proofs.shortcuts.shortcuts_along.Given as goal

abbrev pub invariant-loop-number : goal.invariant-loop-number
invariant-loop-number l = AreShortcuts l.up l.shortcuts.items
