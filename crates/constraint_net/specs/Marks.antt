-- Marks of a network, and going back to one.
use Rattle.std.specs.Prelude.{◌≡◌, ℕ, ◌<◌, ◌≤◌, ◌⊎◌, Bool, true, false, List, ◌++◌, length, All, Contains, take}
use Rattle.domain_core.specs.Domain.{Domain, IsDomain}
use Rattle.cell_store.specs.Cells.{domain_at, IsPlace, GoesBack}
use Rattle.narrow_core.specs.declared.field.Field.{Field}
use Rattle.constraint_net.specs.Calls.{Notes}
use Rattle.constraint_net.specs.Networks.{Network, IsIdle, AllConsistent, cells_of}
use Rattle.constraint_net.specs.Waiting.{WerePosted}
use Rattle.constraint_net.specs.declared.constraint.Constraint.{Constraint}
use Rattle.constraint_net.specs.declared.network.Mark.{Mark}

-- where nothing waited all constraints were consistent
unfoldable pub WereConsistent : Bool → List Field → List Constraint → List Domain → Type 0
WereConsistent idle tables constraints domains = idle ≡ true → AllConsistent tables constraints domains

-- at the mark, which is no later than the latest one, the network had these domains and these constraints, all of which were
-- consistent there if nothing waited
pub record IsMark (net : Network) (mark : Mark) (domains : List Domain) (constraints : List Constraint) : Type 0 where
  pub place : IsPlace (cells_of net) mark.cells domains
  pub marked : mark.cells ≤ net.marked
  pub first : (later : List Constraint) × (net.constraints ≡ constraints ++ later)
  pub count : length constraints ≡ mark.constraints
  pub are : All IsDomain domains
  pub posted : WerePosted net.tables (length domains) constraints
  pub idle : WereConsistent mark.idle net.tables constraints domains

-- the mark is one of this network, and the network hasn't gone back behind it
abbrev pub CanReturn : Network → Mark → Type 0
CanReturn net mark = (domains : List Domain) × (constraints : List Constraint) × IsMark net mark domains constraints

-- no mark to which the network can go back is a later one
abbrev pub IsLatest : Network → Mark → Type 0
IsLatest net mark =
    (earlier : Mark) → CanReturn net earlier
    → (earlier.cells ≤ mark.cells) × (earlier.constraints ≤ mark.constraints)

-- each mark stays one of the same domains and constraints
abbrev pub KeepMarks : Network → Network → Type 0
KeepMarks old new =
    (mark : Mark) (domains : List Domain) (constraints : List Constraint)
    → IsMark old mark domains constraints → IsMark new mark domains constraints

-- where nothing waited at the mark nothing is to be looked at, and else what has changed is noted
abbrev pub LeavesToDo : Bool → Network → Network → Type 0
LeavesToDo true old new = IsIdle new
LeavesToDo false old new = Notes old.domains new.domains old.changed new.changed

-- the variables, their domains and the constraints at the mark are back, which is the latest one then, the stamps
-- follow the domains, nothing is to be looked at if that was so at the mark, and nothing of the work is taken back
pub record Returns (mark : Mark) (old new : Network) : Type 0 where
  pub cells : GoesBack mark.cells (cells_of old) (cells_of new)
  pub constraints : new.constraints ≡ take mark.constraints old.constraints
  pub tables : new.tables ≡ old.tables
  pub work : new.work ≡ old.work
  pub marked : new.marked ≡ mark.cells
  pub to_do : LeavesToDo mark.idle old new

-- each variable that there was, and whose domain is another one now, is among the numbers
abbrev pub HaveChanged : List ℕ → List Domain → List Domain → Type 0
HaveChanged numbers there now =
    (variable : ℕ) → variable < length there
    → (domain_at now variable ≡ domain_at there variable) ⊎ Contains numbers variable
