use Rattle.std.proofs.Common.{List, sym, subst}
use Rattle.std.specs.Prelude.{Option, IfSome}
use Rattle.eu_forest.specs.declared.shortcuts.Shortcut.{Shortcut}
use Rattle.eu_forest.specs.Shortcuts.{AreShortcuts, IsShortcut}
use Rattle.eu_forest.proofs.Jumping.{noted_right}
use Rattle.eu_forest.proofs.shortcuts.note_shortcut.Goals as goal

pub found_shortcut-found-requires : goal.found_shortcut-found-requires
found_shortcut-found-requires c =
    let P : List (Option Shortcut) → Type 0 = λ list. AreShortcuts c.args.up.now list in subst P (sym c.as_slice.ensures.value) c.requires

pub returns : goal.returns
returns c =
    let P : List (Option Shortcut) → Type 0 = λ list. AreShortcuts c.args.up.now list in
    let Q : List (Option Shortcut) → Type 0 = λ list. IfSome c.found_shortcut-found.result (IsShortcut c.args.up.now list c.args.number) in
    subst P (sym c.put_shortcut.ensures)
    (noted_right c.args.up.now c.args.shortcuts.now.items c.requires c.args.number c.found_shortcut-found.result
    (subst Q c.as_slice.ensures.value c.found_shortcut-found.ensures))
