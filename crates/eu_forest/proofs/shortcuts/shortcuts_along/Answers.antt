use Rattle.std.proofs.Common.{List, sym, subst}
use Rattle.std.specs.Prelude.{Option}
use Rattle.eu_forest.specs.declared.shortcuts.Shortcut.{Shortcut}
use Rattle.eu_forest.specs.Shortcuts.{AreShortcuts}
use Rattle.eu_forest.proofs.Jumping.{none_right}
use Rattle.eu_forest.proofs.shortcuts.shortcuts_along.Goals as goal

pub loop-number-init : goal.loop-number-init
loop-number-init c =
    let P : List (Option Shortcut) → Type 0 = λ list. AreShortcuts c.args.up.now list in
    subst P (sym c.in_ok-shortcuts.ensures) (none_right c.args.up.now _)
