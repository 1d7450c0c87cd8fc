-- Edges that keep points on one side of the instant.
use Rattle.std.specs.Prelude.{ℕ, ℤ, pos, neg_ℤ, ◌+ℤ◌, List, ◌++◌}
use Rattle.temporal_core.specs.declared.edges.Edge.{Edge}
use Rattle.temporal_core.specs.Network.{TimeNetwork}
use Rattle.temporal_core.specs.Schedule.{IsSchedule}

-- the point is at or before the instant
abbrev pub early_edge : ℤ → ℕ → Edge
early_edge at point = record { from = point; to = 0; gap = neg_ℤ at }

-- the point is after the instant
abbrev pub late_edge : ℤ → ℕ → Edge
late_edge at point = record { from = 0; to = point; gap = at +ℤ pos 1 }

-- the network with more edges behind its own
abbrev pub with_more : TimeNetwork → List Edge → TimeNetwork
with_more network more = record { points = network.points; edges = network.edges ++ more }

-- the edges have a schedule
abbrev pub HasSchedule : List Edge → Type 0
HasSchedule edges = (value : ℕ → ℤ) × IsSchedule edges value
