-- Members of things that stand under others.
use Rattle.std.specs.Prelude.{◌≡◌, ◌<◌, ◌==◌, ◌||◌, ◌⊎◌, ℕ, ◌+◌, ℤ, pos, Bool, true, false, List, [], ◌∷◌, ◌++◌, Option}
use Rattle.std.specs.Prelude.{Some, None, length, map, slice_get, slice_set, if◌then◌else◌}
use Rattle.std.specs.Option.{option_map_or}
use Rattle.eu_forest.specs.Lines.{StandsUnder}
use Rattle.eu_forest.specs.Shortcuts.{Reaches}

-- ---- marks

-- the thing is the owner
abbrev pub is_owner : ℕ → Option ℕ → Bool
is_owner thing None = false
is_owner thing (Some owner) = owner == thing

-- the member of this number is marked
abbrev pub is_marked : List Bool → ℕ → Bool
is_marked marks number = option_map_or (λ mark. mark) (slice_get marks number) false

-- marked are those of the one, of which the first has this number, and those that are so in the other
abbrev pub marked_from : ℕ → List Bool → List Bool → List Bool
marked_from number [] other = []
marked_from number (mark ∷ more) other = (mark || is_marked other number) ∷ marked_from (number + 1) more other

abbrev pub are_marked : List Bool → List Bool → List Bool
are_marked one other = marked_from 0 one other

-- what is marked in the one is so in the other
abbrev pub IsWithin : List Bool → List Bool → Type 0
IsWithin one other = (number : ℕ) → is_marked one number ≡ true → is_marked other number ≡ true

-- the numbers of those that are marked, of which the first has this number
abbrev pub numbers_marked : ℕ → List Bool → List ℕ
numbers_marked number [] = []
numbers_marked number (mark ∷ more) = (if mark then number ∷ [] else []) ++ numbers_marked (number + 1) more

-- ---- things

-- the marks of the thing of this number, none where there is none
abbrev pub marks_at : List (List Bool) → ℕ → List Bool
marks_at found thing = option_map_or (λ marks. marks) (slice_get found thing) []

-- the list at this place, which is empty where there is none
abbrev pub list_at : {X : Type 0} → List (List X) → ℕ → List X
list_at lists place = option_map_or (λ list. list) (slice_get lists place) []

-- the thing has the member
abbrev pub has_member : List (List Bool) → ℕ → ℕ → Bool
has_member found thing number = is_marked (marks_at found thing) number

-- the numbers of what the thing has, as values
abbrev pub numbers_of : List (List Bool) → ℕ → List ℤ
numbers_of found thing = map pos (numbers_marked 0 (marks_at found thing))

-- the member is the own one of this thing, or of one under it
abbrev pub IsMember : List (Option ℕ) → List (Option ℕ) → ℕ → ℕ → Type 0
IsMember parents owners thing number =
    (owner : ℕ) × (slice_get owners number ≡ Some (Some owner)) × Reaches parents owner thing

-- each thing has its own members and those of all things under it, and no others
pub record AreMembers (parents owners : List (Option ℕ)) (found : List (List Bool)) : Type 0 where
  pub count : length found ≡ length parents
  pub sound : (thing number : ℕ) → has_member found thing number ≡ true → IsMember parents owners thing number
  pub whole : (thing number : ℕ) → thing < length parents → IsMember parents owners thing number
      → has_member found thing number ≡ true

-- ---- how they are found

-- the marks are found by their places, and those in the first place mark nothing
pub record AreShared (marks : List (List Bool)) (places : List ℕ) : Type 0 where
  pub placed : (thing place : ℕ) → slice_get places thing ≡ Some place → place < length marks
  pub first : 0 < length marks
  pub none : IsWithin (marks_at marks 0) []

-- the place of the thing's marks, the first one where there is no such thing
abbrev pub place_or_first : List ℕ → ℕ → ℕ
place_or_first places thing = option_map_or (λ place. place) (slice_get places thing) 0

-- the one thing may have got what the other one has, and nothing else has come or gone
pub record Joins (thing other : ℕ) (old new : List (List Bool)) : Type 0 where
  pub count : length new ≡ length old
  pub sound : (here number : ℕ) → has_member new here number ≡ true
      → (has_member old here number ≡ true) ⊎ ((here ≡ thing) × (has_member old other number ≡ true))
  pub keeps : (here number : ℕ) → has_member old here number ≡ true → has_member new here number ≡ true

-- the one thing has what the other one has, or all is as before
abbrev pub Shares : ℕ → ℕ → List (List Bool) → List (List Bool) → Type 0
Shares thing other old new = (new ≡ slice_set old thing (marks_at old other)) ⊎ (new ≡ old)

-- No thing has a member that it shouldn't, and the owners of the first members, so many, have theirs.
pub record AreGathered (parents owners : List (Option ℕ)) (count : ℕ) (found : List (List Bool)) : Type 0 where
  pub things : length found ≡ length parents
  pub sound : (thing number : ℕ) → has_member found thing number ≡ true → IsMember parents owners thing number
  pub own : (owner number : ℕ) → number < count → slice_get owners number ≡ Some (Some owner) → owner < length parents
      → has_member found owner number ≡ true

-- the thing has the member of this number already, or has all of its own members and no others
abbrev pub PutsOwn : List (Option ℕ) → ℕ → ℕ → List (List Bool) → List (List Bool) → Type 0
PutsOwn owners number thing old new =
    ((new ≡ old) × (has_member old thing number ≡ true)) ⊎ (new ≡ slice_set old thing (map (is_owner thing) owners))

-- what a thing has is had by what it stands under
abbrev pub AreHandedUp : List (Option ℕ) → List (List Bool) → Type 0
AreHandedUp parents found =
    (thing parent : ℕ) → StandsUnder parents thing parent → IsWithin (marks_at found thing) (marks_at found parent)
