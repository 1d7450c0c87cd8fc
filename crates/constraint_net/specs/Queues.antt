-- Queues of numbers.
use Rattle.std.specs.Prelude.{◌≡◌, ◌≢◌, ◌⊎◌, ℕ, ◌^◌, ◌<◌, ◌≤◌, Bool, true, false, List, ◌∷◌, ◌++◌, length}
use Rattle.std.specs.Prelude.{count_by, AllPairs, Contains, slice_index_or}

-- each of the numbers is from the count on
abbrev pub AreFrom : ℕ → List ℕ → Type 0
AreFrom count numbers = (number : ℕ) → Contains numbers number → count ≤ number

-- numbers in the order in which they came, and the bound of those that may come
pub record Queued : Type 0 where
  pub items : List ℕ
  pub room : ℕ

-- the number is the first one
abbrev pub IsForemost : ℕ → Queued → Type 0
IsForemost number queue = (others : List ℕ) × (queue.items ≡ number ∷ others)

-- numbers may have come behind the others, and there are no more of them than may come
pub record Lengthens (old new : Queued) : Type 0 where
  pub room : new.room ≡ old.room
  pub behind : (more : List ℕ) × (new.items ≡ old.items ++ more)
  pub few : length old.items ≤ old.room → length new.items ≤ new.room

-- so it is with this number alone, which is among them if there is room for it
pub record Takes (number : ℕ) (old new : Queued) : Type 0 where
  pub lengthens : Lengthens old new
  pub added : number < old.room → Contains new.items number
  pub only : (other : ℕ) → Contains new.items other → Contains old.items other ⊎ (other ≡ number)

-- numbers may have come behind the others, and these are among them as far as there is room
pub record TakesAll (numbers : List ℕ) (old new : Queued) : Type 0 where
  pub lengthens : Lengthens old new
  pub added : (number : ℕ) → Contains numbers number → number < old.room → Contains new.items number

-- each number stands there at most once, the marks tell which do, and there is memory for all that may come, which fit into
-- 32 bits
pub record IsQueue (items : List ℕ) (standing : List Bool) (capacity : ℕ) : Type 0 where
  pub once : AllPairs (λ one later. one ≢ later) items
  pub marked : (number : ℕ) → Contains items number → slice_index_or standing number false ≡ true
  pub stands : (number : ℕ) → slice_index_or standing number false ≡ true → Contains items number
  pub count : count_by (λ stands. stands) standing ≡ length items
  pub memory : length standing ≤ capacity
  pub short : length standing ≤ 2 ^ 32
