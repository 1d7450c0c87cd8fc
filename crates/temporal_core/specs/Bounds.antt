-- What the search for the least and the greatest values goes through.
use Rattle.std.specs.Prelude.{◌≡◌, ℕ, ℤ, pos, neg_ℤ, ◌-ℤ◌, ◌≤ℤ◌}
use Rattle.std.specs.Prelude.{◌<ℤ◌, List, Option, Some, None, MatchOption, ⊤}
use Rattle.std.specs.Prelude.{slice_index_or}
use Rattle.temporal_core.specs.declared.edges.Edge.{Edge}
use Rattle.temporal_core.specs.Satisfied.{IsNear}

-- the edge with the flow of time turned round
abbrev pub reversed_edge : Edge → Edge
reversed_edge edge = record { from = edge.to; to = edge.from; gap = edge.gap }

-- the negative of the number, if there is one
abbrev pub negative_of : Option ℤ → Option ℤ
negative_of None = None
negative_of (Some number) = Some (neg_ℤ number)

-- two to the fortieth less
abbrev pub far_below : ℤ → ℤ
far_below value = value -ℤ pos 1099511627776

-- the value was raised, and is told as it lies from the origin; or it wasn't
abbrev pub TellsPoint : ℤ → ℤ → ℤ → Option ℤ → Type 0
TellsPoint value satisfied origin None = value ≤ℤ far_below satisfied
TellsPoint value satisfied origin (Some told) = (far_below satisfied <ℤ value) × (told ≡ value -ℤ origin)

-- the numbers that there are are near to 0
abbrev pub AreNear : List (Option ℤ) → Type 0
AreNear values = (point : ℕ) → MatchOption (slice_index_or values point None) ⊤ IsNear
