-- What a file is read as with those that it includes.
use Rattle.std.specs.Prelude.{◌≡◌, ℕ, ◌+◌, ◌<◌, ◌≤◌, zero, suc, List, [], ◌∷◌, ◌++◌, ◌⊎◌, length, Option, Some, None, Result, Ok, Err, MatchResult, MatchBool, IsSome, IsUtf8}
use Rattle.eu_io.specs.Files.{HasContent}
use Rattle.eu_io.specs.declared.shelf.FileEntry.{FileEntry}
use Rattle.nddl_ast.specs.declared.declaration.Decl.{Decl}
use Rattle.nddl_ast.specs.declared.declaration.FileDecls.{FileDecls}
use Rattle.nddl_parser.specs.declared.include.Ask.{Ask}
use Rattle.nddl_parser.specs.declared.include.Include.{Include}
use Rattle.nddl_parser.specs.declared.fault.Refusal.{Refusal}
use Rattle.nddl_parser.specs.declared.fault.Refusal.TheVariants as refused
use Rattle.nddl_parser.specs.declared.fault.TextFail.{TextFail}
use Rattle.nddl_parser.specs.declared.fault.ReadAllFault.{ReadAllFault}
use Rattle.nddl_parser.specs.declared.fault.ReadAllFault.TheVariants as all
use Rattle.nddl_parser.specs.Faults.{fail_kind, faulty, fault_at}
use Rattle.nddl_parser.specs.Includes.{includes_of, is_skipped, ask_in}
use Rattle.nddl_parser.specs.Limits.{most_bytes, most_files, deepest}
use Rattle.nddl_parser.specs.Outcomes.{Reading, FilesOutcome}

-- The text of a file, or the first cause for which it isn't read: there is no such file, it is too long, as many were
-- read
-- before as there may be, or no level of includes is left for it.
abbrev pub Loads : Option (List FileEntry) → ℕ → ℕ → List ℕ → Result (List ℕ) Refusal → Type 0
Loads files count levels name (Err refused.Absent) = HasContent files name None
Loads files count levels name (Err refused.TooLong) =
    (text : List ℕ) × HasContent files name (Some text) × (most_bytes < length text)
Loads files count levels name (Err refused.TooManyFiles) =
    (text : List ℕ) × HasContent files name (Some text) × (length text ≤ most_bytes) × (most_files ≤ count)
Loads files count levels name (Err refused.TooDeep) =
    (text : List ℕ) × HasContent files name (Some text) × (length text ≤ most_bytes) × (count < most_files) × (levels ≡ 0)
Loads files count levels name (Ok text) =
    HasContent files name (Some text) × (length text ≤ most_bytes) × (count < most_files) × (0 < levels)

-- the text of this file has this fault first, which isn't want of memory
abbrev pub HasFault : Reading → List ℕ → List ℕ → ReadAllFault → Type 0
HasFault reads name text fault =
    (wrong : TextFail) × reads text (Err wrong) × IsSome (fail_kind wrong) × (fault ≡ faulty name wrong)

-- the file isn't read, or there is this fault in its text
abbrev pub Stops : Reading → Option (List FileEntry) → ℕ → ℕ → Ask → ReadAllFault → Type 0
Stops reads files count levels ask fault =
    ((refusal : Refusal) × Loads files count levels ask.name (Err refusal) × (fault ≡ fault_at refusal ask))
    ⊎ ((text : List ℕ) × Loads files count levels ask.name (Ok text) × HasFault reads ask.name text fault)

-- the file is read, and its text has these declarations
abbrev pub Takes : Reading → Option (List FileEntry) → ℕ → ℕ → Ask → List Decl → Type 0
Takes reads files count levels ask decls =
    (text : List ℕ) × Loads files count levels ask.name (Ok text) × reads text (Ok decls)

-- where a file is asked for, and these were read before: what is read then, or the fault
abbrev pub Visit : Type 1
Visit = Ask → List FileDecls → FilesOutcome → Type 0

-- the file that an include asks for is visited, where its name is text; otherwise there is no such file
abbrev pub Enters : Visit → Visit
Enters visit ask read outcome =
    (IsUtf8 ask.name × visit ask read outcome) ⊎ (¬ (IsUtf8 ask.name) × (outcome ≡ Err (all.Absent ask.file ask.at)))

-- what comes of one include of this file: it is passed over, or the file that it asks for is visited
abbrev pub ComesOf : Visit → List ℕ → Include → List FileDecls → FilesOutcome → Type 0
ComesOf visit file include read outcome =
    MatchBool (is_skipped include.name read) (outcome ≡ Ok read) (Enters visit (ask_in file include) read outcome)

-- the includes of this file are visited one after another, but for those that are passed over; the first fault ends it
abbrev pub FollowsIncludes : Visit → List ℕ → List Include → List FileDecls → FilesOutcome → Type 0
FollowsIncludes visit file [] read outcome = outcome ≡ Ok read
FollowsIncludes visit file (include ∷ includes) read outcome = MatchBool (is_skipped include.name read)
    (FollowsIncludes visit file includes read outcome)
    ((met : FilesOutcome) × Enters visit (ask_in file include) read met
    × MatchResult met (λ between. FollowsIncludes visit file includes between outcome) (λ fault. outcome ≡ Err fault))

-- the files with the one that was asked for after them
abbrev pub with_file : List FileDecls → Ask → List Decl → List FileDecls
with_file read ask decls = read ++ record { name = ask.name; decls = decls } ∷ []

-- a file is visited: it is read and then its includes are followed, which are visited by `inner`; or a fault ends it
abbrev pub VisitsBy : Visit → Reading → Option (List FileEntry) → ℕ → Visit
VisitsBy inner reads files levels ask read outcome =
    ((fault : ReadAllFault) × Stops reads files (length read) levels ask fault × (outcome ≡ Err fault))
    ⊎ ((decls : List Decl) × Takes reads files (length read) levels ask decls
    × FollowsIncludes inner ask.name (includes_of decls) (with_file read ask decls) outcome)

-- a file is visited with its includes, in as many levels
unfoldable pub Visits : Reading → Option (List FileEntry) → ℕ → Visit
Visits reads files zero ask read outcome = VisitsBy (λ _ _ _. ⊥) reads files zero ask read outcome
Visits reads files (suc levels) ask read outcome =
    VisitsBy (Visits reads files levels) reads files (suc levels) ask read outcome

-- the file of this name is asked for at 0 of itself
abbrev pub first_ask : List ℕ → Ask
first_ask name = record { name = name; file = name; at = 0 }

-- the file of this name and what it includes are read in this order, or this is the first fault
abbrev pub ReadsAll : Reading → Option (List FileEntry) → List ℕ → FilesOutcome → Type 0
ReadsAll reads files name outcome = Visits reads files (deepest + 1) (first_ask name) [] outcome
