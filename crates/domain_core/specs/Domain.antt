-- Values, and domains: what a variable may still be.
use Rattle.std.specs.Prelude.{◌≡◌, ℕ, ◌+◌, ◌-◌, ◌<◌, ◌≤◌, ℤ, pos, negsuc}
use Rattle.std.specs.Prelude.{◌≤ℤ◌, ◌<ℤ◌, ◌+ℤ◌, ◌⊎◌, ⊤, List, length}
use Rattle.std.specs.Prelude.{slice_index_or, All, AllPairs, Contains}
use borrow.Author.Differences.{up, down}

-- a number that a variable may be
abbrev pub IsValue : ℤ → Type 0
IsValue value = (negsuc 999999 ≤ℤ value) × (value ≤ℤ pos 1000000)

-- a domain: all whole numbers between two ends, both included, or the members of a list
pub data Domain : Type 0 where
  Range : ℤ → ℤ → Domain
  Set : List ℤ → Domain

-- each number is less than all later ones, so none stands twice
abbrev pub AreAscending : List ℤ → Type 0
AreAscending numbers = AllPairs (λ one later. one <ℤ later) numbers

-- the members of a set: 1 to 4,096 values, in order
pub record AreMembers (members : List ℤ) : Type 0 where
  pub ascending : AreAscending members
  pub values : All IsValue members
  pub some : 0 < length members
  pub few : length members ≤ 4096

-- its values are values, in order, and it isn't empty
abbrev pub IsDomain : Domain → Type 0
IsDomain (Range lo hi) = IsValue lo × IsValue hi × (lo ≤ℤ hi)
IsDomain (Set members) = AreMembers members

-- the domain has this value
abbrev pub Has : Domain → ℤ → Type 0
Has (Range lo hi) value = (lo ≤ℤ value) × (value ≤ℤ hi)
Has (Set members) value = Contains members value

-- its least value
abbrev pub least : Domain → ℤ
least (Range lo hi) = lo
least (Set members) = slice_index_or members 0 (pos 0)

-- its greatest value
abbrev pub greatest : Domain → ℤ
greatest (Range lo hi) = hi
greatest (Set members) = slice_index_or members (length members - 1) (pos 0)

-- it is kept as its two ends
abbrev pub IsRange : Domain → Type 0
IsRange (Range lo hi) = ⊤
IsRange (Set members) = ⊥

-- both are ranges, or both are sets
abbrev pub IsSameKind : Domain → Domain → Type 0
IsSameKind (Range lo hi) (Range low high) = ⊤
IsSameKind (Set members) (Set others) = ⊤
IsSameKind _ _ = ⊥

-- the values of the domain that a constraint has to support: the ends of a range, each member of a set
abbrev pub IsTested : Domain → ℤ → Type 0
IsTested (Range lo hi) value = (value ≡ lo) ⊎ (value ≡ hi)
IsTested (Set members) value = Contains members value

-- the value lies between the domain's ends
abbrev pub IsBetweenEnds : Domain → ℤ → Type 0
IsBetweenEnds domain value = (least domain ≤ℤ value) × (value ≤ℤ greatest domain)

-- the inner domain lies in the outer: it is of the outer's kind, and each value of it is one of the outer
pub record IsWithin (inner outer : Domain) : Type 0 where
  pub kind : IsSameKind inner outer
  pub values : (value : ℤ) → Has inner value → Has outer value

-- some value is in both domains
abbrev pub HaveCommon : Domain → Domain → Type 0
HaveCommon one other = (value : ℤ) × Has one value × Has other value

-- the domain has this value and no other
pub record IsSingle (domain : Domain) (value : ℤ) : Type 0 where
  pub has : Has domain value
  pub only : (other : ℤ) → Has domain other → other ≡ value

-- how many values the domain has beside its least one; it falls whenever a value goes
abbrev pub slack : Domain → ℕ
slack (Range lo hi) = (up hi + down lo) - (up lo + down hi)
slack (Set members) = length members - 1

-- how many values it has
abbrev pub count_of : Domain → ℕ
count_of domain = slack domain + 1

-- the value at this place, where the least value is at place 0 and each later place has the next greater one
abbrev pub IsNth : Domain → ℕ → ℤ → Type 0
IsNth (Range lo hi) place value = (value ≡ lo +ℤ pos place) × (value ≤ℤ hi)
IsNth (Set members) place value = (place < length members) × (slice_index_or members place value ≡ value)
