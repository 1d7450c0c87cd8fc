-- What is picked from a list.
use Rattle.std.specs.Prelude.{◌≡◌, ◌⊎◌, List, [], ◌∷◌}

-- what is picked is what the items have, in their order: each has one thing, or none
abbrev pub Picks : {X Y : Type 0} → (X → Y → Type 0) → List X → List Y → Type 0
Picks Has [] picked = picked ≡ []
Picks {X} {Y} Has (item ∷ items) picked =
    ((thing : Y) × ((rest : List Y) × (Has item thing × (picked ≡ thing ∷ rest) × Picks Has items rest)))
    ⊎ (((thing : Y) → Has item thing → ⊥) × Picks Has items picked)
