-- What is certain of a change at the instant.
use Rattle.std.specs.Prelude.{◌≡◌, ℕ, ◌<◌, ℤ, List, length, slice_index_or}
use Rattle.temporal_core.specs.declared.edges.Edge.{Edge}
use Rattle.flow_envelope.specs.declared.change.PointChange.{PointChange}
use Rattle.flow_envelope.specs.declared.certain.Certainty.{Certainty}
use Rattle.flow_envelope.specs.declared.certain.Certainty.TheVariants.{Sure, Maybe, Never}
use Rattle.flow_envelope.specs.Sums.{change_at}
use Rattle.flow_envelope.specs.Times.{IsBy, MayBeBy, IsAfter, MayBeAfter}

-- every schedule has the point at or before the instant, some have it there and some don't, or none has it
abbrev pub IsCertainty : List Edge → ℤ → ℕ → Certainty → Type 0
IsCertainty edges at point Sure = IsBy edges at point
IsCertainty edges at point Maybe = MayBeBy edges at point × MayBeAfter edges at point
IsCertainty edges at point Never = IsAfter edges at point

-- what is told of the change at the place
abbrev pub certain_at : List Certainty → ℕ → Certainty
certain_at certain place = slice_index_or certain place Sure

-- what is certain of each change
pub record AreCertain (edges : List Edge) (changes : List PointChange) (at : ℤ) (certain : List Certainty) : Type 0 where
  pub count : length certain ≡ length changes
  pub each : (place : ℕ) → place < length changes
      → IsCertainty edges at (change_at changes place).point (certain_at certain place)
