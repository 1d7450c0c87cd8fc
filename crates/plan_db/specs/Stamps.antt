-- How often the variables of a database were written.
use Rattle.std.specs.Prelude.{◌≡◌, ℕ, ◌^◌, ◌<◌, ◌≤◌, ⊤, List, [], ◌∷◌, Contains, Result, Ok, Err}
use Rattle.domain_core.specs.Domain.{Domain}
use Rattle.eu_name.specs.declared.name.VarName.{VarName}
use Rattle.cell_store.specs.Cells.{FollowsDomain}
use Rattle.db_store.specs.Stores.{Stored, snapshot_of, variable_names}
use Rattle.db_history.specs.declared.footing.Footing.{Footing}
use Rattle.db_history.specs.declared.footing.Footing.TheVariants.{Rest}
use Rattle.db_history.specs.Standing.{Stood}
use Rattle.plan_db.specs.declared.fault.DbFault.{DbFault}
use Rattle.plan_db.specs.declared.fault.DbFault.TheVariants as fault

-- a variable with its domain, and how often this was written
pub record Stamped : Type 0 where
  pub name : VarName
  pub domain : Domain
  pub stamp : ℕ

-- these names with these domains and stamps
abbrev pub with_stamps : List VarName → List Domain → List ℕ → List Stamped
with_stamps [] domains stamps = []
with_stamps (name ∷ names) [] stamps = []
with_stamps (name ∷ names) (domain ∷ domains) [] = []
with_stamps (name ∷ names) (domain ∷ domains) (stamp ∷ stamps) =
    record { name = name; domain = domain; stamp = stamp } ∷ with_stamps names domains stamps

-- the variables of the store where it has the least state of the list; where the list leaves none, there are none
abbrev pub stamps_on : Footing → Stored → List Stamped
stamps_on Rest stored = with_stamps (variable_names (snapshot_of stored)) stored.net.domains stored.net.stamps
stamps_on footing stored = []

-- the same of what is kept
abbrev pub stamps_of : Stood → List Stamped
stamps_of stood = stamps_on stood.footing stood.stored

-- the variable is among these with this domain and this stamp, a number of 64 bits
abbrev pub IsStampedAs : List Stamped → VarName → Domain → ℕ → Type 0
IsStampedAs stamps name domain stamp =
    Contains stamps (record { name = name; domain = domain; stamp = stamp }) × (stamp < 2 ^ 64)

-- of each variable that is among both, the stamp follows the domain: it is as before where the domain is the same, and greater,
-- or as great as a stamp can be, where the domain is another one
abbrev pub StampsFollowDomains : List Stamped → List Stamped → Type 0
StampsFollowDomains old new =
    (name : VarName) (was now : Domain) (stamp next : ℕ)
    → IsStampedAs old name was stamp → IsStampedAs new name now next → FollowsDomain was stamp now next

-- each variable that is among both has the domain that it had, and as great a stamp or a greater one
abbrev pub NoStampFalls : List Stamped → List Stamped → Type 0
NoStampFalls old new =
    (name : VarName) (was now : Domain) (stamp next : ℕ)
    → IsStampedAs old name was stamp → IsStampedAs new name now next → (now ≡ was) × (stamp ≤ next)

-- where the call was refused, and not for want of memory, nothing of what is kept has changed
abbrev pub KeepsIfRefused : {X : Type 0} → Result X DbFault → Stood → Stood → Type 0
KeepsIfRefused (Ok answer) old new = ⊤
KeepsIfRefused (Err fault.Memory) old new = ⊤
KeepsIfRefused (Err refused) old new = new ≡ old
