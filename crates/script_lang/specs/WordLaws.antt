-- Laws of the words of a line.
use Rattle.std.specs.Prelude.{◌≡◌, ℕ, true, false, List, ◌∷◌, [], ◌++◌, All}
use Rattle.script_lang.specs.Words.{is_separator, words_of}

-- bytes without a blank among them are one word
abbrev pub RunsAreWords : Type 0
RunsAreWords =
    (first : ℕ) (rest : List ℕ) → All (λ byte. is_separator byte ≡ false) (first ∷ rest)
    → words_of (first ∷ rest) ≡ (first ∷ rest) ∷ []

-- the words round a blank are those before it and those after it
abbrev pub SeparatorsSplit : Type 0
SeparatorsSplit =
    (before after : List ℕ) (byte : ℕ) → is_separator byte ≡ true
    → words_of (before ++ byte ∷ after) ≡ words_of before ++ words_of after
