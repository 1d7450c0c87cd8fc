-- Lists of which there is one for each thing.
use Rattle.std.specs.Prelude.{ℕ, List, [], ◌∷◌, ◌++◌, slice_set}
use Rattle.eu_forest.specs.Members.{list_at}

-- an item more at the end of that list, if it is there
abbrev pub with_item_at : {X : Type 0} → List (List X) → ℕ → X → List (List X)
with_item_at lists number item = slice_set lists number (list_at lists number ++ item ∷ [])
