-- The parts of what stands in a block, by their sorts.
use Rattle.std.specs.Prelude.{ℕ, ◌+◌, List, [], ◌∷◌}
use Rattle.model_core.specs.Blocks.{Direct, OfSlot, OfLocal, OfItem, OfBranch}

-- the numbers of the slots among these, in order
abbrev pub slots_in : List Direct → List ℕ
slots_in [] = []
slots_in (OfSlot slot ∷ more) = slot ∷ slots_in more
slots_in (OfLocal local ∷ more) = slots_in more
slots_in (OfItem item ∷ more) = slots_in more
slots_in (OfBranch guard then otherwise ∷ more) = slots_in more

-- the numbers of the locals among these, in order
abbrev pub locals_in : List Direct → List ℕ
locals_in [] = []
locals_in (OfSlot slot ∷ more) = locals_in more
locals_in (OfLocal local ∷ more) = local ∷ locals_in more
locals_in (OfItem item ∷ more) = locals_in more
locals_in (OfBranch guard then otherwise ∷ more) = locals_in more

-- the places of the items among these, where the first of these is at this place
abbrev pub item_places : ℕ → List Direct → List ℕ
item_places place [] = []
item_places place (OfSlot slot ∷ more) = item_places (place + 1) more
item_places place (OfLocal local ∷ more) = item_places (place + 1) more
item_places place (OfItem item ∷ more) = place ∷ item_places (place + 1) more
item_places place (OfBranch guard then otherwise ∷ more) = item_places (place + 1) more

-- the places of the branches among these, where the first of these is at this place
abbrev pub branch_places : ℕ → List Direct → List ℕ
branch_places place [] = []
branch_places place (OfSlot slot ∷ more) = branch_places (place + 1) more
branch_places place (OfLocal local ∷ more) = branch_places (place + 1) more
branch_places place (OfItem item ∷ more) = branch_places (place + 1) more
branch_places place (OfBranch guard then otherwise ∷ more) = place ∷ branch_places (place + 1) more
