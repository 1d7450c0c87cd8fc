-- How a text is cut into lines, and what a line counts.
use Rattle.std.specs.Prelude.{ℕ, ◌+◌, ◌/◌, max, List, [], ◌∷◌, length, if◌then◌else◌, ◌==◌}

-- the byte goes onto the first of these lines; where there is none it is a line
abbrev pub onto_first : ℕ → List (List ℕ) → List (List ℕ)
onto_first byte [] = (byte ∷ []) ∷ []
onto_first byte (line ∷ lines) = (byte ∷ line) ∷ lines

-- the lines of a text, each of which ends at a line feed or at the end of the text
abbrev pub lines_of : List ℕ → List (List ℕ)
lines_of [] = []
lines_of (byte ∷ bytes) = if byte == 10 then [] ∷ lines_of bytes else onto_first byte (lines_of bytes)

-- the byte goes onto the first of these lines; where there is none it is dropped
abbrev pub onto_ended : ℕ → List (List ℕ) → List (List ℕ)
onto_ended byte [] = []
onto_ended byte (line ∷ lines) = (byte ∷ line) ∷ lines

-- the lines of a text that a line feed ends
abbrev pub ended_lines : List ℕ → List (List ℕ)
ended_lines [] = []
ended_lines (byte ∷ bytes) = if byte == 10 then [] ∷ ended_lines bytes else onto_ended byte (ended_lines bytes)

-- a line counts once for each 4,096 bytes begun, and an empty one once
abbrev pub cost_of : List ℕ → ℕ
cost_of line = max 1 ((length line + 4095) / 4096)

-- the most that the lines of a session may count
abbrev pub most : ℕ
most = 1000000
