-- Lines that go round a circle once.
use Rattle.std.specs.Prelude.{◌≡◌, ℕ, ◌==◌, Bool, false, List, ◌++◌, Option, Some, None, All, Contains, if◌then◌else◌}
use Rattle.eu_forest.specs.declared.walk.Mark.{Mark}
use Rattle.eu_forest.specs.Ancestors.{ancestry}
use Rattle.eu_forest.specs.Lines.{rootedness_in}
use Rattle.nddl_hierarchy.specs.Lines.{is_circle}

-- These are the first ones of the line of this thing, and each that comes behind them on the line is one of them.
pub record IsRound (parents : List (Option ℕ)) (number : ℕ) (round : List ℕ) : Type 0 where
  pub again : List ℕ
  pub whole : ancestry parents number ≡ round ++ again
  pub known : All (Contains round) again

-- ---- how they are found

-- the first thing of a line that stands on a circle, if this one comes next
abbrev pub first_met : List Mark → Option ℕ → ℕ → Option ℕ
first_met marked (Some first) here = Some first
first_met marked None here = if is_circle (rootedness_in marked here) then Some here else None

-- it is that one
abbrev pub is_first : Option ℕ → ℕ → Bool
is_first None number = false
is_first (Some first) number = first == number

-- what comes next, unless it is that one
abbrev pub unless_first : Option ℕ → Option ℕ → Option ℕ
unless_first first None = None
unless_first first (Some number) = if is_first first number then None else Some number
