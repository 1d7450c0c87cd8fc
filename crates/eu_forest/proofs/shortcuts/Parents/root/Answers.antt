use Rattle.std.proofs.Common.{ℕ, List, sym, subst, ◌∙◌}
use Rattle.std.specs.Prelude.{Option, IfSome}
use Rattle.eu_forest.specs.declared.shortcuts.Shortcut.{Shortcut}
use Rattle.eu_forest.specs.Shortcuts.{AreShortcuts, EndsAt}
use Rattle.eu_forest.proofs.shortcuts.Parents.root.Goals as goal

pub root_at-requires : goal.root_at-requires
root_at-requires c =
    let P : List (Option ℕ) → Type 0 = λ up. AreShortcuts up c.as_slice-2.result.now in
    let Q : List (Option Shortcut) → Type 0 = λ list. AreShortcuts c.self.inside.up.items list in
    subst P (sym c.as_slice.ensures.value) (subst Q (sym c.as_slice-2.ensures.value) c.self.invariant)

pub returns : goal.returns
returns c =
    let P : List (Option ℕ) → Type 0 = λ up. IfSome c.root_at.result (EndsAt up c.args.number) in
    subst P (c.as_slice.ensures.value ∙ c.self.view_is) c.root_at.ensures
