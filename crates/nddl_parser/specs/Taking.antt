-- What the pieces of the work do. The public calls promise none of it.
use Rattle.std.specs.Prelude.{◌≡◌, ℕ, Bool, true, List, length, Option, Result, Ok, Err, ⊤}
use Rattle.eu_io.specs.Faults.{raised}
use Rattle.eu_io.specs.declared.shelf.FileEntry.{FileEntry}
use Rattle.eu_io.specs.declared.shelf.ShelfFail.{ShelfFail}
use Rattle.eu_io.specs.declared.shelf.ShelfFail.TheVariants as shelf
use Rattle.nddl_ast.specs.declared.declaration.Decl.{Decl}
use Rattle.nddl_ast.specs.declared.declaration.FileDecls.{FileDecls}
use Rattle.nddl_parser.specs.declared.include.Ask.{Ask}
use Rattle.nddl_parser.specs.declared.include.Include.{Include}
use Rattle.nddl_parser.specs.declared.fault.Refusal.TheVariants as refused
use Rattle.nddl_parser.specs.declared.taking.FetchFail.{FetchFail}
use Rattle.nddl_parser.specs.declared.taking.FetchFail.TheVariants as fetch
use Rattle.nddl_parser.specs.declared.fault.ReadAllFault.{ReadAllFault}
use Rattle.nddl_parser.specs.declared.fault.ReadAllFault.TheVariants as all
use Rattle.nddl_parser.specs.Includes.{includes_of}
use Rattle.nddl_parser.specs.Outcomes.{Reading}
use Rattle.nddl_parser.specs.Visits.{HasFault, Loads, Stops, Takes, with_file}

-- what the answer of a shelf says of a file
abbrev pub fail_of : ShelfFail → FetchFail
fail_of shelf.Absent = fetch.Refused refused.Absent
fail_of shelf.TooLong = fetch.Refused refused.TooLong
fail_of shelf.Failed = fetch.ReadFault
fail_of shelf.Memory = fetch.Memory

-- the count of faults rose where the call of the shelf failed, and otherwise is what it was
abbrev pub CountsFetch : {T : Type 0} → Result T FetchFail → ℕ → ℕ → Type 0
CountsFetch (Err fetch.ReadFault) old new = new ≡ raised old
CountsFetch other old new = new ≡ old

-- where the call of the shelf failed it was the last one
abbrev pub NoFetchAfter : {T : Type 0} → Result T FetchFail → Bool → Type 0
NoFetchAfter (Err fetch.ReadFault) last = last ≡ true
NoFetchAfter other last = ⊤

-- the text of the file or why it isn't read, unless there was no memory or the call of the shelf failed
abbrev pub Fetches : Option (List FileEntry) → ℕ → ℕ → List ℕ → Result (List ℕ) FetchFail → Type 0
Fetches files count levels name (Ok text) = Loads files count levels name (Ok text)
Fetches files count levels name (Err (fetch.Refused refusal)) = Loads files count levels name (Err refusal)
Fetches files count levels name (Err fetch.ReadFault) = ⊤
Fetches files count levels name (Err fetch.Memory) = ⊤

-- the declarations of the text of this file, or the fault in it
abbrev pub ParsesFile : Reading → List ℕ → List ℕ → Result (List Decl) ReadAllFault → Type 0
ParsesFile reads name text (Ok decls) = reads text (Ok decls)
ParsesFile reads name text (Err all.Memory) = ⊤
ParsesFile reads name text (Err fault) = HasFault reads name text fault

-- the file that is asked for has these declarations, or why none are read
abbrev pub HasDecls : Reading → Option (List FileEntry) → ℕ → ℕ → Ask → Result (List Decl) ReadAllFault → Type 0
HasDecls reads files count levels ask (Ok decls) = Takes reads files count levels ask decls
HasDecls reads files count levels ask (Err all.ReadFault) = ⊤
HasDecls reads files count levels ask (Err all.Memory) = ⊤
HasDecls reads files count levels ask (Err fault) = Stops reads files count levels ask fault

-- the file was read, and these are its includes, or why not
abbrev pub TakesFile : Reading → Option (List FileEntry) → ℕ → Ask → List FileDecls → List FileDecls
    → Result (List Include) ReadAllFault → Type 0
TakesFile reads files levels ask old new (Ok includes) =
    (decls : List Decl) × Takes reads files (length old) levels ask decls
    × (includes ≡ includes_of decls) × (new ≡ with_file old ask decls)
TakesFile reads files levels ask old new (Err all.ReadFault) = ⊤
TakesFile reads files levels ask old new (Err all.Memory) = ⊤
TakesFile reads files levels ask old new (Err fault) = Stops reads files (length old) levels ask fault
