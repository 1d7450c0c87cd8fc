-- What shelves in memory hold and answer.
use Rattle.std.specs.Prelude.{◌≡◌, ℕ, ◌≤◌, List, length, Some}
use Rattle.eu_io.specs.Memory.{CallState}
use Rattle.eu_io.specs.Files.{file_named}
use Rattle.eu_io.specs.declared.shelf.FileEntry.{FileEntry}

-- a shelf of which some calls fail
pub record MemShelfState : Type 0 where
  pub entries : List FileEntry
  pub calls : CallState

-- there is a file of this name, and it has at most `limit` bytes
abbrev pub HasWithin : List FileEntry → List ℕ → ℕ → Type 0
HasWithin entries name limit = (bytes : List ℕ) × (file_named name entries ≡ Some bytes) × (length bytes ≤ limit)
