-- Things that are known one after another.
use Rattle.std.proofs.Common.{ℕ, ◌+◌, ◌<◌, List, Option, length, inl, inr, sym, subst, arith}
use Rattle.eu_forest.specs.declared.lineage.Rootedness.{Rootedness}
use Rattle.eu_forest.specs.declared.walk.Mark.{Mark}
use Rattle.eu_forest.specs.Lines.{IsLineageOf}
use Rattle.eu_forest.specs.Walks.{AreBegun, AreWalkable, IsKnownAs, IsKnownFrom}
use Rattle.eu_forest.proofs.Marking.{equal_or_not}
use Rattle.eu_forest.proofs.Telling.{all_known, begun_walkable}

-- the things below the number are known
pub record AreKnownBelow (parents : List (Option ℕ)) (marked : List Mark) (order : List ℕ) (number : ℕ) : Type 0 where
  pub walkable : AreWalkable parents marked order
  pub known : (other : ℕ) → other < number → (rootedness : Rootedness) × IsKnownAs marked other rootedness

pub known_none : (parents : List (Option ℕ)) (marked : List Mark) (order : List ℕ) → AreBegun parents marked order → AreKnownBelow parents marked order 0
known_none parents marked order begun = record { walkable = begun_walkable parents marked order begun; known = λ other below. absurd (omega arith) }

pub known_more : (parents : List (Option ℕ)) (old new : List Mark) (order ordered : List ℕ) (number : ℕ) → AreKnownBelow parents old order number
    → AreWalkable parents new ordered → IsKnownFrom old new number → AreKnownBelow parents new ordered (number + 1)
known_more parents old new order ordered number below walkable known = record {
  walkable = walkable;
  known = λ other lower. elim (equal_or_not other number) [
    | inl same ↦ (let P : ℕ → Type 0 = λ n. (rootedness : Rootedness) × IsKnownAs new n rootedness in subst P (sym same) known.known)
    | inr differ ↦ (let found = below.known other (omega arith) in (found.0, known.keeps other found.0 found.1))
  ];
}

pub known_all : (parents : List (Option ℕ)) (marked : List Mark) (order : List ℕ) → AreKnownBelow parents marked order (length parents) → IsLineageOf parents marked order
known_all parents marked order below = all_known parents marked order below.walkable below.known
