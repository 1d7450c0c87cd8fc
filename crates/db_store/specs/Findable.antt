-- How keys are kept so that each is found.
use Rattle.std.specs.Prelude.{◌≡◌, ◌⊎◌, ◌↔◌, ℕ, ◌+◌, ◌<◌, List, AllPairs, Contains, slice_get, Option, Some, MatchOption}
use Rattle.eu_name.specs.declared.name.Part.{Part as TokenPart}
use Rattle.eu_name.specs.declared.name.Part.TheVariants.{Start, End, Duration, Object, Param}
use Rattle.db_store.specs.declared.key.VarKey.{VarKey}
use Rattle.db_store.specs.declared.key.VarKey.TheVariants.{Part}

-- how many parts of a token come before this one
abbrev pub parts_before : TokenPart → ℕ
parts_before Start = 0
parts_before End = 1
parts_before Duration = 2
parts_before Object = 3
parts_before (Param number) = 4 + number

-- at this number the key is as far behind its token's start as its part says, and the start stands where it is noted
pub record IsExpectedAt (starts : List ℕ) (all : List VarKey) (key : VarKey) (number : ℕ) : Type 0 where
  pub place : ℕ
  pub part : TokenPart
  pub start : ℕ
  pub is : key ≡ Part place part
  pub noted : slice_get starts place ≡ Some start
  pub there : slice_get all start ≡ Some (Part place Start)
  pub behind : number ≡ start + parts_before part

-- the entries come in order of their numbers
abbrev pub AreInOrder : List (VarKey × ℕ) → Type 0
AreInOrder others = AllPairs (λ one later. one.1 < later.1) others

-- each key stands where it is expected, or is listed among the others with its number, and each of those stands there
pub record AreFindable (starts : List ℕ) (all : List VarKey) (others : List (VarKey × ℕ)) : Type 0 where
  pub each : (number : ℕ) (key : VarKey) → slice_get all number ≡ Some key
      → IsExpectedAt starts all key number ⊎ Contains others (key, number)
  pub listed : (number : ℕ) (key : VarKey) → Contains others (key, number) → slice_get all number ≡ Some key
  pub order : AreInOrder others

-- the key stands at this number; none, if it doesn't stand where it is expected
abbrev pub FindsExpected : List ℕ → List VarKey → VarKey → Option ℕ → Type 0
FindsExpected starts all key found =
    MatchOption found
    ((number : ℕ) → IsExpectedAt starts all key number → slice_get all number ≡ Some key → ⊥)
    (λ number. slice_get all number ≡ Some key)

-- the number with which the key is listed; none, if it isn't listed
abbrev pub FindsListed : List (VarKey × ℕ) → VarKey → Option ℕ → Type 0
FindsListed others key found =
    MatchOption found ((number : ℕ) → Contains others (key, number) → ⊥) (λ number. Contains others (key, number))

-- so many entries in front are those of numbers below the count
abbrev pub IsCutAt : List (VarKey × ℕ) → ℕ → ℕ → Type 0
IsCutAt others count kept =
    (place number : ℕ) (key : VarKey) → slice_get others place ≡ Some (key, number) → (place < kept) ↔ (number < count)
