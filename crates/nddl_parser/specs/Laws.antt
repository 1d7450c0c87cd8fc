-- Laws of files with their includes.
use Rattle.std.specs.Prelude.{◌≡◌, ◌≢◌, ℕ, ◌≤◌, true, List, ◌∷◌}
use Rattle.std.specs.Prelude.{length, All, AllPairs, Option, Some, Result, Ok, IfErr, IsSome}
use Rattle.eu_io.specs.declared.shelf.FileEntry.{FileEntry}
use Rattle.nddl_ast.specs.declared.declaration.Decl.{Decl}
use Rattle.nddl_parser.specs.declared.fault.TextFail.{TextFail}
use Rattle.nddl_parser.specs.Faults.{fail_kind}
use Rattle.nddl_ast.specs.declared.declaration.FileDecls.{FileDecls}
use Rattle.nddl_parser.specs.Includes.{includes_of, is_skipped}
use Rattle.nddl_parser.specs.Limits.{most_bytes, most_files}
use Rattle.nddl_parser.specs.Outcomes.{Reading, FilesOutcome}
use Rattle.nddl_parser.specs.Visits.{ReadsAll}

-- this is the one outcome that there is
pub record IsOne {X : Type 0} (Is : X → Type 0) (outcome : X) : Type 0 where
  pub is : Is outcome
  pub only : (other : X) → Is other → other ≡ outcome

-- each text that isn't too long is read in one way, and not as want of memory
abbrev pub TextsHaveOneReading : Reading → Type 0
TextsHaveOneReading reads = (text : List ℕ) → length text ≤ most_bytes
    → (outcome : Result (List Decl) TextFail) × IsOne (reads text) outcome
    × IfErr outcome (λ fail. IsSome (fail_kind fail))

-- then, where the shelf tells its files, each file is read in one way with those that it includes
abbrev pub FilesHaveOneOutcome : Reading → Type 0
FilesHaveOneOutcome reads = TextsHaveOneReading reads
    → (files : List FileEntry) (name : List ℕ) → (outcome : FilesOutcome) × IsOne (ReadsAll reads (Some files) name) outcome

-- What files that were read are like: the first has this name, no two have one name, there are no more than may be,
-- and each include in them names one of them, or what is built in.
pub record AreRead (name : List ℕ) (files : List FileDecls) : Type 0 where
  pub first : (decls : List Decl) × (more : List FileDecls) × (files ≡ record { name = name; decls = decls } ∷ more)
  pub distinct : AllPairs (λ one other. one.name ≢ other.name) files
  pub few : length files ≤ most_files
  pub closed : All (λ file. All (λ include. is_skipped include.name files ≡ true) (includes_of file.decls)) files

-- what a file is read as with those that it includes are such files
abbrev pub ReadsFiles : Reading → Type 0
ReadsFiles reads = (shelf : Option (List FileEntry)) (name : List ℕ) (files : List FileDecls)
    → ReadsAll reads shelf name (Ok files) → AreRead name files
