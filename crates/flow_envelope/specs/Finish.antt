-- What is left at the end, and which points are to be early.
use Rattle.std.specs.Prelude.{◌≡◌, ℕ, ◌<◌, ℤ, pos, ◌-ℤ◌, ◌≤ℤ◌, ◌<ℤ◌, List, length, map, Contains, ⊤}
use Rattle.temporal_core.specs.declared.edges.Edge.{Edge}
use Rattle.temporal_core.specs.Satisfied.{value_at}
use Rattle.flow_envelope.specs.declared.change.PointChange.{PointChange}
use Rattle.flow_envelope.specs.declared.change.Amount.{Amount}
use Rattle.flow_envelope.specs.declared.certain.Certainty.{Certainty}
use Rattle.flow_envelope.specs.declared.certain.Certainty.TheVariants.{Sure, Maybe, Never}
use Rattle.flow_envelope.specs.declared.flow.Flow.{Flow}
use Rattle.flow_envelope.specs.declared.labels.Label.{Label}
use Rattle.flow_envelope.specs.declared.labels.Labels.{Labels}
use Rattle.flow_envelope.specs.Sums.{change_at}
use Rattle.flow_envelope.specs.Certain.{certain_at}
use Rattle.flow_envelope.specs.Pairs.{ArePairs}
use Rattle.flow_envelope.specs.Flow.{IsFlow, IsMoved}
use Rattle.flow_envelope.specs.Labels.{label_at, AreClosed}
use Rattle.flow_envelope.specs.Filling.{to_give, to_take}

-- a million at most, and no less than nothing
abbrev pub IsModest : ℤ → Type 0
IsModest number = (pos 0 ≤ℤ number) × (number ≤ℤ pos 1000000)

-- what the change counts for, with so much more to give and so much room
abbrev pub left_of : Certainty → ℤ → ℤ → ℤ
left_of Sure more room = more -ℤ room
left_of Maybe more room = more
left_of Never more room = pos 0

-- what the change at the place counts for
abbrev pub left_at : List Certainty → List ℤ → List ℤ → ℕ → ℤ
left_at certain more room place = left_of (certain_at certain place) (value_at more place) (value_at room place)

-- the change adds, isn't certain, and has no label
pub record IsPinned (changes : List PointChange) (certain : List Certainty) (adders : List Label) (place : ℕ) : Type 0 where
  pub within : place < length changes
  pub adds : pos 0 <ℤ (change_at changes place).add
  pub maybe : certain_at certain place ≡ Maybe
  pub none : (label_at adders place).rank ≡ 0

-- the points of these changes, up to the limit
pub record ArePins (changes : List PointChange) (certain : List Certainty) (adders : List Label) (limit : ℕ)
    (pins : List ℕ) : Type 0 where
  pub each : (point : ℕ) → Contains pins point
      → (place : ℕ) × IsPinned changes certain adders place × ((change_at changes place).point ≡ point)
  pub all : (place : ℕ) → place < limit → IsPinned changes certain adders place
      → Contains pins (change_at changes place).point

-- all pairs, with all that the changes have to give and all the room that they have
pub record IsBegun (edges : List Edge) (changes : List PointChange) (at : ℤ) (certain : List Certainty) (flow : Flow) : Type 0 where
  pub are_pairs : ArePairs edges changes at certain (λ one other. ⊤) flow.pairs.items
  pub more : flow.more.items ≡ map to_give changes
  pub room : flow.room.items ≡ map to_take changes

-- as much was carried along these pairs as can be
pub record IsEnded (edges : List Edge) (changes : List PointChange) (at : ℤ) (certain : List Certainty) (flow : Flow)
    (labels : Labels) : Type 0 where
  pub first : List Amount
  pub are_pairs : ArePairs edges changes at certain (λ one other. ⊤) first
  pub is_flow : IsFlow flow.pairs.items flow.more.items flow.room.items
  pub moved : IsMoved first (map to_give changes) (map to_take changes) flow.pairs.items flow.more.items flow.room.items
  pub closed : AreClosed flow.pairs.items flow.more.items flow.room.items labels.adders.items labels.takers.items
  pub count : length labels.adders.items ≡ length changes
