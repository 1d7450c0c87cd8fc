-- Laws of domains, over the words alone and not over how a domain is kept.
use Rattle.std.specs.Prelude.{◌≡◌, ℕ, ◌<◌, ◌≤◌, ◌↔◌, ℤ, ◌≤ℤ◌, ◌<ℤ◌, List, Result, Err}
use Rattle.domain_core.specs.Domain.{Domain, IsDomain, IsValue, IsRange, Has, least, greatest, IsTested}
use Rattle.domain_core.specs.Domain.{IsBetweenEnds, IsWithin, slack, count_of, IsNth}
use Rattle.domain_core.specs.Narrowing.{Keeps}
use Rattle.domain_core.specs.Lists.{MakesSet}
use Rattle.domain_core.specs.declared.Change.{Change}
use Rattle.domain_core.specs.declared.Change.TheVariants.{Empty}
use Rattle.domain_core.specs.declared.SetFault.{SetFault}
use Rattle.domain_core.specs.declared.SetFault.TheVariants as fault

-- the ends are values of the domain, and tested
pub record HasEnds (domain : Domain) : Type 0 where
  pub has_least : Has domain (least domain)
  pub has_greatest : Has domain (greatest domain)
  pub tests_least : IsTested domain (least domain)
  pub tests_greatest : IsTested domain (greatest domain)

-- what the domain has lies between its ends and is one of all values, and it has what is tested
pub record HasValues (domain : Domain) : Type 0 where
  pub between : (value : ℤ) → Has domain value → IsBetweenEnds domain value
  pub values : (value : ℤ) → Has domain value → IsValue value
  pub tested : (value : ℤ) → IsTested domain value → Has domain value

-- its values stand at the places below their count, in ascending order
pub record HasPlaces (domain : Domain) : Type 0 where
  pub place : (value : ℤ) → Has domain value → (place : ℕ) × (place < count_of domain) × IsNth domain place value
  pub value : (place : ℕ) (value : ℤ) → IsNth domain place value → Has domain value × (place < count_of domain)
  pub rise : (place later : ℕ) (value other : ℤ) → place < later → IsNth domain place value
      → IsNth domain later other → value <ℤ other

-- a domain that lies in another has no more slack, and it is the same where it has as much
abbrev pub SlackFalls : Domain → Domain → Type 0
SlackFalls inner outer =
    IsWithin inner outer → (slack inner ≤ slack outer) × (slack outer ≤ slack inner → inner ≡ outer)

-- with two numbers also each number between them passes
abbrev pub IsConvex : (ℤ → Type 0) → Type 0
IsConvex passes = (low value high : ℤ) → passes low → passes high → low ≤ℤ value → value ≤ℤ high → passes value

-- of the domains in the old one whose tested values pass, the new one is the greatest
pub record IsGreatestPart (passes : ℤ → Type 0) (old new : Domain) : Type 0 where
  pub within : IsWithin new old
  pub tested : (value : ℤ) → IsTested new value → passes value
  pub greatest : (part : Domain) → IsDomain part → IsWithin part old
      → ((value : ℤ) → IsTested part value → passes value) → IsWithin part new

-- what is kept is that greatest part, unless there is none at all
pub record KeepsGreatest (passes : ℤ → Type 0) (old : Domain) (change : Change) (new : Domain) : Type 0 where
  pub some : (change ≡ Empty → ⊥) → IsGreatestPart passes old new
  pub none : change ≡ Empty → (part : Domain) → IsDomain part → IsWithin part old
      → ((value : ℤ) → IsTested part value → passes value) → ⊥

-- it is exactly what passes, of a set always, and of a range where what passes has no holes
abbrev pub KeepsExactly : (ℤ → Type 0) → Domain → Change → Domain → Type 0
KeepsExactly passes old change new =
    (IsRange old → IsConvex passes) → (change ≡ Empty → ⊥)
    → (value : ℤ) → Has new value ↔ (Has old value × passes value)

-- what a call keeps: what lies between two numbers, what another domain has, or all but one number
pub data Kept : Type 0 where
  Between : ℤ → ℤ → Kept
  Common : Domain → Kept
  Without : ℤ → Kept

-- the value is among what the call keeps
abbrev pub Passes : Kept → ℤ → Type 0
Passes (Between lo hi) value = (lo ≤ℤ value) × (value ≤ℤ hi)
Passes (Common other) value = Has other value
Passes (Without number) value = value ≡ number → ⊥

-- of more, more is kept: where something is kept of a domain, something is kept of a larger one of which no less
-- passes, and in it lies what is kept of the smaller
abbrev pub IsMonotoneKeeping : Kept → Kept → Type 0
IsMonotoneKeeping what more =
    (old new wide wide_new : Domain) (change wide_change : Change)
    → IsDomain old → IsDomain new → IsDomain wide → IsDomain wide_new
    → ((value : ℤ) → Passes what value → Passes more value) → IsWithin old wide
    → Keeps (Passes what) old change new → Keeps (Passes more) wide wide_change wide_new
    → (change ≡ Empty → ⊥) → (wide_change ≡ Empty → ⊥) × IsWithin new wide_new

-- a list makes one set, or has one reason that it makes none; only memory may be wanting or not
abbrev pub MakesOne : Type 0
MakesOne = (values : List ℤ) (one other : Result Domain SetFault) → MakesSet values one → MakesSet values other
    → (one ≡ Err fault.Memory → ⊥) → (other ≡ Err fault.Memory → ⊥) → one ≡ other
