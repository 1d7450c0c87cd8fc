-- What writing a whole piece does.
use Rattle.std.specs.Prelude.{◌≡◌, ℕ, Bool, not, ◌==◌, List, ◌++◌, Option, Result, Ok, Err}
use Rattle.std.specs.Io.KnownBytes.{Appends}

-- all of the piece was appended, or where the write failed a front of it
abbrev pub WritesWhole : {U F : Type 0} → Option (List ℕ) → Option (List ℕ) → Result U F → List ℕ → Type 0
WritesWhole old new (Ok done) piece = Appends old new piece
WritesWhole old new (Err fault) piece = (front lost : List ℕ) × Appends old new front × (piece ≡ front ++ lost)

-- the byte doesn't end a line
abbrev pub is_before_feed : ℕ → Bool
is_before_feed byte = not (byte == 10)
