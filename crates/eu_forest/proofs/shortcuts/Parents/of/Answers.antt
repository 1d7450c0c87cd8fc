use Rattle.std.proofs.Common.{ℕ, List, subst}
use Rattle.std.specs.Prelude.{Option}
use Rattle.eu_forest.specs.Shortcuts.{AreShortcuts}
use Rattle.eu_forest.proofs.shortcuts.Parents.of.Goals as goal

pub invariant_of-result : goal.invariant_of-result
invariant_of-result c =
    let P : List (Option ℕ) → Type 0 = λ up. AreShortcuts up c.in_ok-shortcuts.shortcuts.items in
    subst P c.as_slice.ensures.value c.in_ok-shortcuts.ensures
