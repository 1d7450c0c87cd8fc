-- The words of a line.
use Rattle.std.specs.Prelude.{ℕ, Bool, false, true, ◌||◌, ◌==◌, List, [], ◌∷◌, filter}
use Rattle.std.specs.List.{slice_split}

-- a space, a tab or a carriage return
abbrev pub is_separator : ℕ → Bool
is_separator byte = (byte == 32) || (byte == 9) || (byte == 13)

-- the part isn't empty
abbrev pub is_some_word : List ℕ → Bool
is_some_word [] = false
is_some_word (first ∷ rest) = true

-- what stands between the blanks of a line, without the empty parts
abbrev pub words_of : List ℕ → List (List ℕ)
words_of line = filter is_some_word (slice_split is_separator line)
