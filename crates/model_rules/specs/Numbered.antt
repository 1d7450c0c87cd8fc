-- The numbers of the slots and locals that stand in a rule.
use Rattle.std.specs.Prelude.{◌≡◌, ◌≢◌, ◌↔◌, ℕ, ◌<◌, Bool, true, false, List, [], ◌∷◌, ◌++◌, Some, length, slice_get, slice_set, All, AllPairs, Contains}
use Rattle.model_core.specs.Blocks.{Direct, OfSlot, OfLocal}
use Rattle.model_core.specs.Entries.{Entries, NoEntry, WithSlot, WithLocal, WithItem, WithBranch}
use Rattle.model_rules.specs.declared.numbers.Sort.{Sort}
use Rattle.model_rules.specs.declared.numbers.Sort.TheVariants.{Slots, Locals}

-- what of this sort stands by this number
abbrev pub numbered : Sort → ℕ → Direct
numbered Slots number = OfSlot number
numbered Locals number = OfLocal number

-- the numbers of the slots, or of the locals, in the blocks
abbrev pub numbers_of : Sort → Entries → List ℕ
numbers_of sort NoEntry = []
numbers_of Slots (WithSlot slot more) = slot ∷ numbers_of Slots more
numbers_of Locals (WithSlot slot more) = numbers_of Locals more
numbers_of Slots (WithLocal local more) = numbers_of Slots more
numbers_of Locals (WithLocal local more) = local ∷ numbers_of Locals more
numbers_of sort (WithItem item more) = numbers_of sort more
numbers_of sort (WithBranch guard then otherwise more) =
    numbers_of sort then ++ (numbers_of sort otherwise ++ numbers_of sort more)

-- all numbers of the list are below the count, and they alone have marks
pub record AreMarked (count : ℕ) (listed : List ℕ) (marks : List Bool) : Type 0 where
  pub size : length marks ≡ count
  pub within : All (λ number. number < count) listed
  pub marked : (number : ℕ) → (slice_get marks number ≡ Some true) ↔ Contains listed number

-- a number gets a mark that it hadn't, or there is no such mark
abbrev pub MarksNew : List Bool → ℕ → Bool → List Bool → Type 0
MarksNew old number true new = (slice_get old number ≡ Some false) × (new ≡ slice_set old number true)
MarksNew old number false new = slice_get old number ≡ Some false → ⊥

-- the numbers below the count, and no others, are marked, and each stands in the list once; or not
abbrev pub MarksAllNew : ℕ → List ℕ → Bool → List Bool → Type 0
MarksAllNew count listed true new = AreMarked count listed new × AllPairs ◌≢◌ listed
MarksAllNew count listed false new = All (λ number. number < count) listed → AllPairs ◌≢◌ listed → ⊥

-- each number below the count stands in the list once, and no other does
pub record AreOnce (count : ℕ) (listed : List ℕ) : Type 0 where
  pub within : All (λ number. number < count) listed
  pub distinct : AllPairs ◌≢◌ listed
  pub whole : (number : ℕ) → number < count → Contains listed number
