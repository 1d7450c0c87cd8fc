-- What a shelf of files holds, where it tells, and what it answers when it is asked for one.
use Rattle.std.specs.Prelude.{◌≡◌, ℕ, ◌<◌, ◌≤◌, Bool, true, false, List, [], ◌∷◌}
use Rattle.std.specs.Prelude.{length, Option, Some, None, Result, Ok, Err, ⊤, if◌then◌else◌, bytes_eq}
use Rattle.eu_io.specs.Faults.{counted}
use Rattle.eu_io.specs.declared.shelf.FileEntry.{FileEntry}
use Rattle.eu_io.specs.declared.shelf.ShelfFail.{ShelfFail}
use Rattle.eu_io.specs.declared.shelf.ShelfFail.TheVariants.{Absent, TooLong, Failed, Memory}

-- the bytes of the first file of this name
abbrev pub file_named : List ℕ → List FileEntry → Option (List ℕ)
file_named name [] = None
file_named name (entry ∷ entries) = if bytes_eq entry.name name then Some entry.bytes else file_named name entries

-- under this name the shelf has this content, or no file; where it doesn't tell its files, it may have either
abbrev pub HasContent : Option (List FileEntry) → List ℕ → Option (List ℕ) → Type 0
HasContent None name content = ⊤
HasContent (Some files) name content = content ≡ file_named name files

-- what `get` answers: the bytes of a file of at most `limit` bytes, or that there is none, or that it is longer
abbrev pub Gets : Option (List FileEntry) → List ℕ → ℕ → Result (List ℕ) ShelfFail → Type 0
Gets files name limit (Ok bytes) = HasContent files name (Some bytes) × (length bytes ≤ limit)
Gets files name limit (Err Absent) = HasContent files name None
Gets files name limit (Err TooLong) = (bytes : List ℕ) × HasContent files name (Some bytes) × (limit < length bytes)
Gets files name limit (Err Failed) = ⊤
Gets files name limit (Err Memory) = ⊤

-- whether it is the answer of a call that failed
abbrev pub is_failed : Result (List ℕ) ShelfFail → Bool
is_failed (Ok bytes) = false
is_failed (Err Absent) = false
is_failed (Err TooLong) = false
is_failed (Err Failed) = true
is_failed (Err Memory) = false

-- the count is one more where the call failed, and otherwise is what it was
abbrev pub CountsFaults : Result (List ℕ) ShelfFail → ℕ → ℕ → Type 0
CountsFaults answer old new = new ≡ counted (is_failed answer) old
