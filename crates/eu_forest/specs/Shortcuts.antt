-- Shortcuts along what things stand under.
use Rattle.std.specs.Prelude.{◌≡◌, ◌↔◌, ◌⊎◌, ℕ, ◌+◌, ◌<◌, ◌==◌, Bool, List, Option, Some, None, is_none, slice_get, slice_set}
use Rattle.std.specs.Prelude.{if◌then◌else◌}
use Rattle.std.specs.List.{list_any}
use Rattle.std.specs.Option.{option_and_then, option_map_or}
use Rattle.eu_forest.specs.Lines.{LeadsUp}
use Rattle.eu_forest.specs.declared.shortcuts.Shortcut.{Shortcut}
use Rattle.eu_forest.specs.Ancestors.{ancestry}

-- the first thing is the other one, or leads up to it
abbrev pub Reaches : List (Option ℕ) → ℕ → ℕ → Type 0
Reaches parents number other = (path : List ℕ) × LeadsUp parents number path other

-- the thing reaches this one, which stands under nothing
abbrev pub EndsAt : List (Option ℕ) → ℕ → ℕ → Type 0
EndsAt parents number root = Reaches parents number root × (slice_get parents root ≡ Some None)

-- the other thing stands on the line of this one
abbrev pub is_on_line : List (Option ℕ) → ℕ → ℕ → Bool
is_on_line parents number other = list_any (λ here. other == here) (ancestry parents number)

-- it ends somewhere, and whether the other thing stands on its line
abbrev pub TellsLine : List (Option ℕ) → ℕ → ℕ → Bool → Type 0
TellsLine parents number other on =
    ((root : ℕ) × EndsAt parents number root) × (on ≡ is_on_line parents number other)

-- the shortcut of a thing, if it has one
abbrev pub shortcut_in : List (Option Shortcut) → ℕ → Option Shortcut
shortcut_in shortcuts number = option_and_then (λ found. found) (slice_get shortcuts number)

-- the thing has a shortcut
abbrev pub HasShortcut : List (Option Shortcut) → ℕ → Type 0
HasShortcut shortcuts number = (shortcut : Shortcut) × (shortcut_in shortcuts number ≡ Some shortcut)

-- how deep a thing stands
abbrev pub depth_in : List (Option Shortcut) → ℕ → ℕ
depth_in shortcuts number = option_map_or (λ shortcut. shortcut.depth) (shortcut_in shortcuts number) 0

-- where the jump of a thing leads, if it has a shortcut
abbrev pub jump_in : List (Option Shortcut) → ℕ → ℕ
jump_in shortcuts number = option_map_or (λ shortcut. shortcut.jump) (shortcut_in shortcuts number) number

-- from this thing it leads nowhere, or along two jumps
abbrev pub JumpsUp : List (Option Shortcut) → ℕ → ℕ → Type 0
JumpsUp shortcuts parent there = (there ≡ parent) ⊎ (there ≡ jump_in shortcuts (jump_in shortcuts parent))

-- these, where what has no shortcut yet has this one
abbrev pub with_shortcut : List (Option Shortcut) → ℕ → Option Shortcut → List (Option Shortcut)
with_shortcut shortcuts number found =
    if is_none (shortcut_in shortcuts number) then slice_set shortcuts number found else shortcuts

-- the shortcut leads over the thing that this one stands under
pub record GoesOver (parents : List (Option ℕ)) (shortcuts : List (Option Shortcut)) (parent : ℕ) (shortcut : Shortcut) : Type 0 where
  pub above : Shortcut
  pub known : shortcut_in shortcuts parent ≡ Some above
  pub deeper : shortcut.depth ≡ above.depth + 1
  pub higher : Reaches parents parent shortcut.jump
  pub same : shortcut.root ≡ above.root

-- the shortcut of this thing is right where it stands under this
abbrev pub GoesOn : List (Option ℕ) → List (Option Shortcut) → ℕ → Shortcut → Option (Option ℕ) → Type 0
GoesOn parents shortcuts number shortcut None = ⊥
GoesOn parents shortcuts number shortcut (Some None) =
    (shortcut.depth ≡ 0) × (shortcut.jump ≡ number) × (shortcut.root ≡ number)
GoesOn parents shortcuts number shortcut (Some (Some parent)) = GoesOver parents shortcuts parent shortcut

-- the shortcut of the thing of this number is right
abbrev pub IsShortcut : List (Option ℕ) → List (Option Shortcut) → ℕ → Shortcut → Type 0
IsShortcut parents shortcuts number shortcut = GoesOn parents shortcuts number shortcut (slice_get parents number)

-- all shortcuts are right
abbrev pub AreShortcuts : List (Option ℕ) → List (Option Shortcut) → Type 0
AreShortcuts parents shortcuts =
    (number : ℕ) (shortcut : Shortcut) → shortcut_in shortcuts number ≡ Some shortcut
    → IsShortcut parents shortcuts number shortcut

-- the step goes up from here, and not past the other thing
pub record StepsUp (parents : List (Option ℕ)) (shortcuts : List (Option Shortcut)) (here other next : ℕ) : Type 0 where
  pub known : HasShortcut shortcuts next
  pub nearer : depth_in shortcuts next < depth_in shortcuts here
  pub same : Reaches parents here other ↔ Reaches parents next other
