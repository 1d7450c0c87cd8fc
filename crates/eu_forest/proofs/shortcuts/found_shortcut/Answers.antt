use Rattle.std.proofs.Common.{ℕ, subst}
use Rattle.std.specs.Prelude.{Option, IfSome}
use Rattle.eu_forest.specs.Shortcuts.{GoesOn}
use Rattle.eu_forest.proofs.shortcuts.found_shortcut.Goals as goal

pub returns : goal.returns
returns c =
    let P : Option (Option ℕ) → Type 0 = λ under.
    IfSome c.shortcut_by.result (λ shortcut. GoesOn c.args.up.now c.args.shortcuts.now c.args.number shortcut under) in
    subst P c.in_ok-under.ensures c.shortcut_by.ensures
