-- What a line that is held shows of the whole line.
use Rattle.std.specs.Prelude.{◌≡◌, ℕ, List, length, take}
use Rattle.session_loop.specs.declared.line.Line.{Line}

-- the line held is this one: its first 4,097 bytes, and its length
abbrev pub HoldsLine : Line → List ℕ → Type 0
HoldsLine held line = (held.front.items ≡ take 4097 line) × (held.length ≡ length line)
