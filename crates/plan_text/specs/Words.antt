-- The words of a plan text, and what stands before each.
use Rattle.std.specs.Prelude.{◌≡◌, ℕ, ◌<◌, ◌-◌, Bool, false, true, ◌||◌, ◌==◌, List, [], ◌∷◌, ◌++◌}
use Rattle.std.specs.Prelude.{length, drop, All, ⊤}
use Rattle.std.specs.List.{prefix_len}

-- a space or a line feed, which stand between words; all other bytes are of words
abbrev pub is_gap : ℕ → Bool
is_gap byte = (byte == 32) || (byte == 10)

-- a word has a byte, and no gap in it
abbrev pub IsUnbroken : List ℕ → Type 0
IsUnbroken word = (0 < length word) × All (λ byte. is_gap byte ≡ false) word

-- no word goes on here: the text ends, or a gap comes first
abbrev pub IsPaused : List ℕ → Type 0
IsPaused [] = ⊤
IsPaused (byte ∷ rest) = is_gap byte ≡ true

-- the text goes on with just this gap, the whole word, and then the rest
pub record HasWord (gap text word rest : List ℕ) : Type 0 where
  pub whole : text ≡ gap ++ (word ++ rest)
  pub unbroken : IsUnbroken word
  pub paused : IsPaused rest

-- no word comes behind just this gap
abbrev pub HasNoWord : List ℕ → List ℕ → Type 0
HasNoWord gap text = (word rest : List ℕ) → HasWord gap text word rest → ⊥

-- what is left from the next word on, whatever the gap before it is; nothing where there is no word any more
abbrev pub from_next_word : List ℕ → List ℕ
from_next_word text = drop (prefix_len is_gap text) text

-- the place in the text of the next word of this rest of it, or the text's length
abbrev pub place_in : List ℕ → List ℕ → ℕ
place_in text rest = length text - length (from_next_word rest)
