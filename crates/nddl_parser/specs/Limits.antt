-- How much is read.
use Rattle.std.specs.Prelude.{ℕ}

-- the most bytes that a file may have
abbrev pub most_bytes : ℕ
most_bytes = 1048576

-- the most files that are read
abbrev pub most_files : ℕ
most_files = 64

-- how deep includes may go, where the file that is asked for first is 0 deep
abbrev pub deepest : ℕ
deepest = 8
