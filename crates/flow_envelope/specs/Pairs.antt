-- Pairs of a change that adds and one that takes, between which amounts may go.
use Rattle.std.specs.Prelude.{◌≡◌, ℕ, ◌<◌, ℤ, pos, ◌≤ℤ◌, ◌<ℤ◌, ◌⊎◌, List, length, Option, None}
use Rattle.std.specs.Prelude.{MatchOption, slice_index_or}
use Rattle.temporal_core.specs.declared.edges.Edge.{Edge}
use Rattle.flow_envelope.specs.declared.change.PointChange.{PointChange}
use Rattle.flow_envelope.specs.declared.change.Amount.{Amount}
use Rattle.flow_envelope.specs.declared.certain.Certainty.{Certainty}
use Rattle.flow_envelope.specs.declared.certain.Certainty.TheVariants.{Maybe}
use Rattle.flow_envelope.specs.Sums.{change_at}
use Rattle.flow_envelope.specs.Times.{Precedes, MayPart}
use Rattle.flow_envelope.specs.Certain.{certain_at}

-- the pair at the place
abbrev pub pair_at : List Amount → ℕ → Amount
pair_at pairs place = slice_index_or pairs place (record { from = 0; to = 0; amount = pos 0 })

-- the change adds, and isn't certain
pub record IsAdder (changes : List PointChange) (certain : List Certainty) (place : ℕ) : Type 0 where
  pub within : place < length changes
  pub adds : pos 0 <ℤ (change_at changes place).add
  pub maybe : certain_at certain place ≡ Maybe

-- the change takes, and isn't certain
pub record IsTaker (changes : List PointChange) (certain : List Certainty) (place : ℕ) : Type 0 where
  pub within : place < length changes
  pub takes : (change_at changes place).add <ℤ pos 0
  pub maybe : certain_at certain place ≡ Maybe

-- the change takes, isn't certain, and its point has a greatest value, at or before the instant
pub record IsFollower (changes : List PointChange) (certain : List Certainty) (greatest : List (Option ℤ)) (at : ℤ)
    (place : ℕ) : Type 0 where
  pub by : MatchOption (slice_index_or greatest (change_at changes place).point None) ⊥ (λ value. value ≤ℤ at)
  pub taker : IsTaker changes certain place

-- a change that adds and one that takes, neither of them certain
pub record IsCandidate (changes : List PointChange) (certain : List Certainty) (adder taker : ℕ) : Type 0 where
  pub adder_there : adder < length changes
  pub taker_there : taker < length changes
  pub adds : pos 0 <ℤ (change_at changes adder).add
  pub takes : (change_at changes taker).add <ℤ pos 0
  pub adder_maybe : certain_at certain adder ≡ Maybe
  pub taker_maybe : certain_at certain taker ≡ Maybe

-- the pair is of two candidates, and no schedule has the point of the second one later
pub record IsPair (edges : List Edge) (changes : List PointChange) (certain : List Certainty) (pair : Amount) : Type 0 where
  pub candidate : IsCandidate changes certain pair.from pair.to
  pub precedes : Precedes edges (change_at changes pair.to).point (change_at changes pair.from).point

-- the two are a pair of the list
abbrev pub HasPair : List Amount → ℕ → ℕ → Type 0
HasPair pairs adder taker =
    (place : ℕ) × (place < length pairs) × ((pair_at pairs place).from ≡ adder) × ((pair_at pairs place).to ≡ taker)

-- pairs without an amount yet: of the candidates that are dealt with, each two are a pair, or some schedule has the
-- instant between them
pub record ArePairs (edges : List Edge) (changes : List PointChange) (at : ℤ) (certain : List Certainty)
    (dealt : ℕ → ℕ → Type 0) (pairs : List Amount) : Type 0 where
  pub each : (place : ℕ) → place < length pairs → IsPair edges changes certain (pair_at pairs place)
  pub idle : (place : ℕ) → place < length pairs → (pair_at pairs place).amount ≡ pos 0
  pub told : (adder taker : ℕ) → IsCandidate changes certain adder taker → dealt adder taker
      → HasPair pairs adder taker ⊎ MayPart edges at (change_at changes adder).point (change_at changes taker).point
