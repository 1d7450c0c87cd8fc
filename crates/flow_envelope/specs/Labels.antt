-- Labels of the places from which a way leads on to where there is room.
use Rattle.std.specs.Prelude.{◌≡◌, ℕ, ◌+◌, ◌<◌, ◌≤◌, ◌==◌, if◌then◌else◌, ℤ, pos, ◌≤ℤ◌}
use Rattle.std.specs.Prelude.{◌<ℤ◌, ◌⊎◌, List, [], ◌∷◌, length}
use Rattle.std.specs.Prelude.{slice_index_or}
use Rattle.temporal_core.specs.Satisfied.{value_at}
use Rattle.flow_envelope.specs.declared.change.Amount.{Amount}
use Rattle.flow_envelope.specs.declared.labels.Label.{Label}
use Rattle.flow_envelope.specs.Pairs.{pair_at}

-- the label of the place; its rank is 0 if it has none
abbrev pub label_at : List Label → ℕ → Label
label_at labels place = slice_index_or labels place (record { rank = 0; via = 0 })

-- the adder is labelled: its pair leads to a taker with a lower label
pub record IsAdderLed (pairs : List Amount) (adders takers : List Label) (place : ℕ) : Type 0 where
  pub via : (label_at adders place).via < length pairs
  pub from : (pair_at pairs (label_at adders place).via).from ≡ place
  pub some : 0 < (label_at takers (pair_at pairs (label_at adders place).via).to).rank
  pub lower : (label_at takers (pair_at pairs (label_at adders place).via).to).rank < (label_at adders place).rank

-- the taker gets an amount from an adder with a lower label
pub record IsTakerLed (pairs : List Amount) (adders takers : List Label) (place : ℕ) : Type 0 where
  pub via : (label_at takers place).via < length pairs
  pub to : (pair_at pairs (label_at takers place).via).to ≡ place
  pub amount : pos 0 <ℤ (pair_at pairs (label_at takers place).via).amount
  pub some : 0 < (label_at adders (pair_at pairs (label_at takers place).via).from).rank
  pub lower : (label_at adders (pair_at pairs (label_at takers place).via).from).rank < (label_at takers place).rank

-- each place with a label up to the limit is led on; a taker may have room itself
pub record AreLed (pairs : List Amount) (room : List ℤ) (adders takers : List Label) (limit : ℕ) : Type 0 where
  pub adder : (place : ℕ) → 0 < (label_at adders place).rank → (label_at adders place).rank ≤ limit
      → IsAdderLed pairs adders takers place
  pub taker : (place : ℕ) → 0 < (label_at takers place).rank → (label_at takers place).rank ≤ limit
      → (pos 0 <ℤ value_at room place) ⊎ IsTakerLed pairs adders takers place

-- a place that takes begins with a label if it has room
pub record IsSeed (room : ℤ) (label : Label) : Type 0 where
  pub room_there : pos 0 <ℤ room → label.rank ≡ 1
  pub no_room : room ≤ℤ pos 0 → label.rank ≡ 0

-- one, if the place has no label
unfoldable pub without : Label → ℕ
without label = if label.rank == 0 then 1 else 0

-- how many places have no label
abbrev pub unlabelled : List Label → ℕ
unlabelled [] = 0
unlabelled (label ∷ labels) = without label + unlabelled labels

-- the labels up to the next rank
pub record AreLabels (pairs : List Amount) (room : List ℤ) (adders takers : List Label) (next : ℕ) : Type 0 where
  pub some : 0 < next
  pub below_adders : (place : ℕ) → (label_at adders place).rank < next
  pub below_takers : (place : ℕ) → (label_at takers place).rank < next
  pub led : AreLed pairs room adders takers next

-- nothing is to be done at the pair
pub record IsSettled (pairs : List Amount) (more : List ℤ) (adders takers : List Label) (place : ℕ) : Type 0 where
  pub back : 0 < (label_at takers (pair_at pairs place).to).rank → 0 < (label_at adders (pair_at pairs place).from).rank
  pub forth : pos 0 <ℤ (pair_at pairs place).amount → 0 < (label_at adders (pair_at pairs place).from).rank
      → 0 < (label_at takers (pair_at pairs place).to).rank
  pub spent : 0 < (label_at adders (pair_at pairs place).from).rank → value_at more (pair_at pairs place).from ≤ℤ pos 0

-- labels that were there stay
pub record AreGrown (adders takers adders' takers' : List Label) (next next' : ℕ) : Type 0 where
  pub adders_count : length adders' ≡ length adders
  pub takers_count : length takers' ≡ length takers
  pub kept : (place : ℕ) → 0 < (label_at takers place).rank → 0 < (label_at takers' place).rank
  pub later : next ≤ next'
  pub left : next' + (unlabelled adders' + unlabelled takers') ≡ next + (unlabelled adders + unlabelled takers)

-- nothing changed and nothing is to be done at the pair but to look for more; or there is one more label
abbrev pub IsVisited : List Amount → ℕ → List Label → List Label → List Label → List Label → ℕ → ℕ → Type 0
IsVisited pairs place adders takers adders' takers' next next' =
    ((adders' ≡ adders) × (takers' ≡ takers) × (next' ≡ next)
    × (0 < (label_at takers (pair_at pairs place).to).rank → 0 < (label_at adders (pair_at pairs place).from).rank)
    × (pos 0 <ℤ (pair_at pairs place).amount → 0 < (label_at adders (pair_at pairs place).from).rank
    → 0 < (label_at takers (pair_at pairs place).to).rank))
    ⊎ (next < next')

-- no place with more to give can be led to room
pub record AreClosed (pairs : List Amount) (more room : List ℤ) (adders takers : List Label) : Type 0 where
  pub seeds : (place : ℕ) → pos 0 <ℤ value_at room place → 0 < (label_at takers place).rank
  pub settled : (place : ℕ) → place < length pairs → IsSettled pairs more adders takers place
  pub spent : (place : ℕ) → 0 < (label_at adders place).rank → value_at more place ≤ℤ pos 0

-- a labelled place with more to give
pub record IsStart (pairs : List Amount) (more room : List ℤ) (adders takers : List Label) (start : ℕ) : Type 0 where
  pub within : start < length more
  pub led : AreLed pairs room adders takers (label_at adders start).rank
  pub some : 0 < (label_at adders start).rank
  pub has_more : pos 0 <ℤ value_at more start
