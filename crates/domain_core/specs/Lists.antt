-- Sets that are made of lists.
use Rattle.std.specs.Prelude.{◌≡◌, ℕ, ◌<◌, ◌≤◌, ◌↔◌, ◌⊎◌, ℤ}
use Rattle.std.specs.Prelude.{List, [], length, take, All, Contains, Result, Ok, Err}
use Rattle.std.specs.List.{Any}
use Rattle.domain_core.specs.Domain.{Domain, Set, IsValue, AreAscending, AreMembers}
use Rattle.domain_core.specs.Narrowing.{IsSievedPart}
use Rattle.domain_core.specs.declared.SetFault.{SetFault}
use Rattle.domain_core.specs.declared.SetFault.TheVariants.{Empty, OutOfRange, TooMany, Memory}
use Rattle.domain_core.specs.declared.Change.{Change}
use Rattle.domain_core.specs.declared.Change.TheVariants as change

-- the lists have the same items, whatever their order and however often each stands there
abbrev pub HaveSameItems : List ℤ → List ℤ → Type 0
HaveSameItems one other = (value : ℤ) → Contains one value ↔ Contains other value

-- the members of the set that the list gives
pub record AreMembersOf (values members : List ℤ) : Type 0 where
  pub are : AreMembers members
  pub same : HaveSameItems members values

-- the list has more than 4,096 distinct numbers
pub record HasTooMany (numbers : List ℤ) : Type 0 where
  pub distinct : List ℤ
  pub ascending : AreAscending distinct
  pub among : All (Contains numbers) distinct
  pub many : 4096 < length distinct

-- what is made of a list: its set, or the first reason that it has none; memory is wanted only where there is a set
abbrev pub MakesSet : List ℤ → Result Domain SetFault → Type 0
MakesSet values (Ok domain) = (members : List ℤ) × (domain ≡ Set members) × AreMembersOf values members
MakesSet values (Err Empty) = values ≡ []
MakesSet values (Err OutOfRange) = Any (λ value. IsValue value → ⊥) values
MakesSet values (Err TooMany) = All IsValue values × HasTooMany values
MakesSet values (Err Memory) = (members : List ℤ) × AreMembersOf values members

-- what passed of an ascending list stands at its front; where that is nothing or all of it, nothing has moved
pub record KeepsFront (passed failed : ℤ → Type 0) (old : List ℤ) (kept : ℕ) (new : List ℤ) : Type 0 where
  pub few : kept ≤ length old
  pub long : length new ≡ length old
  pub part : IsSievedPart passed failed old (take kept new)
  pub none : kept ≡ 0 → new ≡ old
  pub all : kept ≡ length old → new ≡ old

-- what is left where only the front of a list is to stay: nothing changes where that is nothing or all of it
abbrev pub LeavesFront : ℕ → List ℤ → Change → List ℤ → Type 0
LeavesFront kept old change.Same new = (new ≡ old) × (kept ≡ length old)
LeavesFront kept old change.Smaller new = (new ≡ take kept old) × (0 < kept) × (kept ≡ length old → ⊥)
LeavesFront kept old change.Empty new = (new ≡ old) × (kept ≡ 0)

-- the number stands among the others, in its place
pub record Inserts (old : List ℤ) (number : ℤ) (new : List ℤ) : Type 0 where
  pub ascending : AreAscending new
  pub items : (other : ℤ) → Contains new other ↔ (Contains old other ⊎ (other ≡ number))

-- among the others it would be one too many
pub record IsFull (old : List ℤ) (number : ℤ) : Type 0 where
  pub longer : List ℤ
  pub inserts : Inserts old number longer
  pub many : 4096 < length longer

-- the distinct numbers of the list, in order, and not too many of them
pub record AreDistinct (numbers distinct : List ℤ) : Type 0 where
  pub ascending : AreAscending distinct
  pub same : HaveSameItems distinct numbers
  pub few : length distinct ≤ 4096
