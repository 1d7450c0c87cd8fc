-- What the walks do. The public calls promise none of it.
use Rattle.std.specs.Prelude.{◌≡◌, ◌↔◌, ℕ, ◌<◌, ◌≤◌, List, [], ◌∷◌, ◌++◌, drop, reverse, take, Option}
use Rattle.std.specs.Prelude.{Some, None, length, slice_get}
use Rattle.eu_forest.specs.declared.lineage.Rootedness.{Rootedness}
use Rattle.eu_forest.specs.declared.lineage.Rootedness.TheVariants.{Rooted, OnCircle, Leading}
use Rattle.eu_forest.specs.declared.walk.Mark.{Mark}
use Rattle.eu_forest.specs.declared.walk.Mark.TheVariants as marks
use Rattle.eu_forest.specs.declared.walk.End.{End}
use Rattle.eu_forest.specs.declared.walk.End.TheVariants as ends
use Rattle.eu_forest.specs.Lines.{StandsUnder, StandsSo, ParentsComeFirst}

-- the rootedness of the thing is known
abbrev pub IsKnownAs : List Mark → ℕ → Rootedness → Type 0
IsKnownAs marked number rootedness = slice_get marked number ≡ Some (marks.Known rootedness)

-- the thing stands in the order
abbrev pub StandsIn : List ℕ → ℕ → Type 0
StandsIn order number = (place : ℕ) × (slice_get order place ≡ Some number)

-- what is known is so, and so is what it stands under known; the order has the rooted things that are known
pub record AreTold (parents : List (Option ℕ)) (marked : List Mark) (order : List ℕ) : Type 0 where
  pub count : length marked ≡ length parents
  pub known : (number : ℕ) (rootedness : Rootedness) → IsKnownAs marked number rootedness → StandsSo parents number rootedness
  pub closed : (number : ℕ) (rootedness : Rootedness) (parent : ℕ)
      → IsKnownAs marked number rootedness → StandsUnder parents number parent
      → (above : Rootedness) × IsKnownAs marked parent above
  pub ordered : ParentsComeFirst parents order
  pub sound : (place number : ℕ) → slice_get order place ≡ Some number → IsKnownAs marked number Rooted
  pub whole : (number : ℕ) → IsKnownAs marked number Rooted → StandsIn order number

-- the things of the path, and no others, are marked with their places in it
abbrev pub AreWalked : List Mark → List ℕ → Type 0
AreWalked marked path =
    (number place : ℕ) → (slice_get marked number ≡ Some (marks.Walked place)) ↔ (slice_get path place ≡ Some number)

-- what stands under nothing is known as rooted
abbrev pub RootsAreKnown : List (Option ℕ) → List Mark → Type 0
RootsAreKnown parents marked = (number : ℕ) → slice_get parents number ≡ Some None → IsKnownAs marked number Rooted

-- the marks are those of a walk along this path
pub record IsMarked (parents : List (Option ℕ)) (marked : List Mark) (path : List ℕ) : Type 0 where
  pub count : length marked ≡ length parents
  pub walked : AreWalked marked path
  pub roots : RootsAreKnown parents marked

-- things are known and in order, and no walk has begun
pub record AreWalkable (parents : List (Option ℕ)) (marked : List Mark) (order : List ℕ) : Type 0 where
  pub marks_are : IsMarked parents marked []
  pub told : AreTold parents marked order

-- only what stands under nothing is known
pub record AreBegun (parents : List (Option ℕ)) (marked : List Mark) (order : List ℕ) : Type 0 where
  pub count : length marked ≡ length parents
  pub root : (number : ℕ) → slice_get parents number ≡ Some None
      → IsKnownAs marked number Rooted × StandsIn order number
  pub other : (number parent : ℕ) → slice_get parents number ≡ Some (Some parent) → slice_get marked number ≡ Some marks.Unseen
  pub ordered : (place number : ℕ) → slice_get order place ≡ Some number → slice_get parents number ≡ Some None

-- the first of the things, or the other one
abbrev pub first_or : List ℕ → ℕ → ℕ
first_or [] top = top
first_or (number ∷ more) top = number

-- each thing of the path stands under the next, and the last under the top
abbrev pub IsChain : List (Option ℕ) → List ℕ → ℕ → Type 0
IsChain parents [] top = Unit {0}
IsChain parents (number ∷ path) top = StandsUnder parents number (first_or path top) × IsChain parents path top

-- the walk's end stands so
abbrev pub IsEnd : List Mark → List ℕ → ℕ → End → Type 0
IsEnd marked path top (ends.Known rootedness) = IsKnownAs marked top rootedness
IsEnd marked path top (ends.Back place) = slice_get path place ≡ Some top

-- the same things are known as before, and in the same way
abbrev pub KnowsTheSame : List Mark → List Mark → Type 0
KnowsTheSame old new = (number : ℕ) (rootedness : Rootedness) → IsKnownAs old number rootedness ↔ IsKnownAs new number rootedness

-- a walk from the thing of this number has gone up this path, below the top
pub record HasClimbed (parents : List (Option ℕ)) (number : ℕ) (old new : List Mark) (path : List ℕ) (top : ℕ) : Type 0 where
  pub marks_are : IsMarked parents new path
  pub same : KnowsTheSame old new
  pub chain : IsChain parents path top
  pub begins : first_or path top ≡ number
  pub there : top < length parents

-- and has ended
pub record Climbs (parents : List (Option ℕ)) (number : ℕ) (old new : List Mark) (path : List ℕ) (end : End) : Type 0 where
  pub top : ℕ
  pub climbed : HasClimbed parents number old new path top
  pub is_end : IsEnd new path top end

-- what was known is known in the same way, and this too
pub record IsKnownFrom (old new : List Mark) (number : ℕ) : Type 0 where
  pub keeps : (other : ℕ) (rootedness : Rootedness) → IsKnownAs old other rootedness → IsKnownAs new other rootedness
  pub known : (rootedness : Rootedness) × IsKnownAs new number rootedness

-- all things of the list get the mark, and no others
pub record MarksAll (list : List ℕ) (mark : Mark) (old new : List Mark) : Type 0 where
  pub count : length new ≡ length old
  pub inside : (place number : ℕ) → slice_get list place ≡ Some number → slice_get new number ≡ Some mark
  pub outside : (number : ℕ) → ((place : ℕ) → slice_get list place ≡ Some number → ⊥)
      → slice_get new number ≡ slice_get old number

-- the rootedness of a thing, off the circle, that stands under one of this rootedness
abbrev pub below_of : Rootedness → Rootedness
below_of Rooted = Rooted
below_of OnCircle = Leading
below_of Leading = Leading

-- the order with the things of the path behind it, from the last one down, if they are rooted
abbrev pub ordered_more : Rootedness → List ℕ → List ℕ → List ℕ
ordered_more Rooted order path = order ++ reverse path
ordered_more rootedness order path = order

-- the end is one of a walk along this path
abbrev pub IsEndAlong : List ℕ → End → Type 0
IsEndAlong path (ends.Known rootedness) = Unit {0}
IsEndAlong path (ends.Back place) = place ≤ length path

-- the things of the path are marked by how the walk ended, and the order has them that are rooted
abbrev pub Finishes : List ℕ → End → List Mark → List ℕ → List Mark → List ℕ → Type 0
Finishes path (ends.Known rootedness) old order new ordered =
    MarksAll path (marks.Known (below_of rootedness)) old new × (ordered ≡ ordered_more (below_of rootedness) order path)
Finishes path (ends.Back place) old order new ordered =
    ((mid : List Mark) × MarksAll (drop place path) (marks.Known OnCircle) old mid
    × MarksAll (take place path) (marks.Known Leading) mid new)
    × (ordered ≡ order)
