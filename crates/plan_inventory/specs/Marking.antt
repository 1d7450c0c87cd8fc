-- Which slots and locals of a rule are marked.
use Rattle.std.specs.Prelude.{◌≡◌, ℕ, ◌<◌, ◌⊎◌, ◌↔◌, true, false, get_or, length}
use Rattle.eu_name.specs.declared.name.TokenName.{TokenName}
use Rattle.model_core.specs.declared.model.Model.{Model}
use Rattle.model_core.specs.Blocks.{Direct, OfSlot, OfLocal}
use Rattle.plan_defs.specs.declared.plan.Plan.{Plan}
use Rattle.plan_values.specs.Openings.{StandsInRule}
use Rattle.plan_inventory.specs.declared.marks.Marks.{Marks}

-- the slot or the local is marked
abbrev pub IsMarked : Marks → Direct → Type 0
IsMarked marks (OfSlot number) = get_or marks.slots number false ≡ true
IsMarked marks (OfLocal number) = get_or marks.locals number false ≡ true
IsMarked marks what = ⊥

-- it is a slot or a local, of a number for which there is a mark
abbrev pub HasMark : Marks → Direct → Type 0
HasMark marks (OfSlot number) = number < length marks.slots
HasMark marks (OfLocal number) = number < length marks.locals
HasMark marks what = ⊥

-- there are marks for as many slots and locals as a rule may have, and none of them is set
pub record AreNone (marks : Marks) : Type 0 where
  pub slots : length marks.slots ≡ 128
  pub locals : length marks.locals ≡ 128
  pub none : (what : Direct) → IsMarked marks what → ⊥

-- beside what was marked, that is marked of which it is so
pub record AddsMarks (IsSo : Direct → Type 0) (old new : Marks) : Type 0 where
  pub slots : length new.slots ≡ length old.slots
  pub locals : length new.locals ≡ length old.locals
  pub kept : (what : Direct) → IsMarked old what → IsMarked new what
  pub added : (what : Direct) → HasMark old what → IsSo what → IsMarked new what
  pub only : (what : Direct) → IsMarked new what → IsMarked old what ⊎ IsSo what

-- just those slots and locals are marked that stand in open blocks of the token's rule
pub record MarksRule (model : Model) (plan : Plan) (token : TokenName) (rule : ℕ) (marks : Marks) : Type 0 where
  pub slots : (number : ℕ) → (IsMarked marks (OfSlot number)) ↔ (StandsInRule model plan token rule (OfSlot number))
  pub locals : (number : ℕ) → (IsMarked marks (OfLocal number)) ↔ (StandsInRule model plan token rule (OfLocal number))
