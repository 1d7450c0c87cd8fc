-- Things that stand under others: which are on a circle, and which lead up to one that stands under none.
use Rattle.std.specs.Prelude.{◌≡◌, ℕ, ◌<◌, List, [], ◌∷◌, Option, Some, None, length, slice_get}
use Rattle.std.specs.Option.{option_and_then}
use Rattle.eu_forest.specs.declared.lineage.Rootedness.{Rootedness}
use Rattle.eu_forest.specs.declared.lineage.Rootedness.TheVariants.{Rooted, OnCircle, Leading}
use Rattle.eu_forest.specs.declared.walk.Mark.{Mark}
use Rattle.eu_forest.specs.declared.walk.Mark.TheVariants as marks

-- what each thing stands under, by number, is one of the things
abbrev pub AreParents : List (Option ℕ) → Type 0
AreParents parents =
    (number parent : ℕ) → slice_get parents number ≡ Some (Some parent) → parent < length parents

-- the thing of the first number stands under that of the second
abbrev pub StandsUnder : List (Option ℕ) → ℕ → ℕ → Type 0
StandsUnder parents number parent = slice_get parents number ≡ Some (Some parent)

-- each stands under the next, from the one thing up to the other
abbrev pub LeadsUp : List (Option ℕ) → ℕ → List ℕ → ℕ → Type 0
LeadsUp parents number [] other = other ≡ number
LeadsUp parents number (parent ∷ path) other = StandsUnder parents number parent × LeadsUp parents parent path other

-- what the thing stands under leads up to one that stands under none
pub record IsRooted (parents : List (Option ℕ)) (number : ℕ) : Type 0 where
  pub path : List ℕ
  pub root : ℕ
  pub leads : LeadsUp parents number path root
  pub ends : slice_get parents root ≡ Some None

-- the thing stands under itself, at once or over others
pub record IsOnCircle (parents : List (Option ℕ)) (number : ℕ) : Type 0 where
  pub parent : ℕ
  pub path : List ℕ
  pub under : StandsUnder parents number parent
  pub back : LeadsUp parents parent path number

-- the thing leads up to a circle, and isn't on it
pub record IsLeading (parents : List (Option ℕ)) (number : ℕ) : Type 0 where
  pub path : List ℕ
  pub other : ℕ
  pub leads : LeadsUp parents number path other
  pub circle : IsOnCircle parents other
  pub off : IsOnCircle parents number → ⊥

-- the thing stands so
abbrev pub StandsSo : List (Option ℕ) → ℕ → Rootedness → Type 0
StandsSo parents number Rooted = IsRooted parents number
StandsSo parents number OnCircle = IsOnCircle parents number
StandsSo parents number Leading = IsLeading parents number

-- the rootedness that a mark says
abbrev pub rootedness_of_mark : Mark → Option Rootedness
rootedness_of_mark (marks.Known rootedness) = Some rootedness
rootedness_of_mark mark = None

-- the rootedness of the thing of the number by the marks
abbrev pub rootedness_in : List Mark → ℕ → Option Rootedness
rootedness_in marked number = option_and_then rootedness_of_mark (slice_get marked number)

-- in the order each thing comes after the one that it stands under
abbrev pub ParentsComeFirst : List (Option ℕ) → List ℕ → Type 0
ParentsComeFirst parents order =
    (place number parent : ℕ) → slice_get order place ≡ Some number → StandsUnder parents number parent
    → (earlier : ℕ) × (earlier < place) × (slice_get order earlier ≡ Some parent)

-- each thing has its rootedness, and nothing else has one; the order has the rooted ones, each after the one that it stands under
pub record IsLineageOf (parents : List (Option ℕ)) (marked : List Mark) (order : List ℕ) : Type 0 where
  pub count : length marked ≡ length parents
  pub rootedness : (number : ℕ) → number < length parents
      → (rootedness : Rootedness) × (rootedness_in marked number ≡ Some rootedness) × StandsSo parents number rootedness
  pub ordered : ParentsComeFirst parents order
  pub sound : (place number : ℕ) → slice_get order place ≡ Some number → IsRooted parents number
  pub whole : (number : ℕ) → rootedness_in marked number ≡ Some Rooted
      → (place : ℕ) × (slice_get order place ≡ Some number)
