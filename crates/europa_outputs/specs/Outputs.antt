-- What can't be missing: what files pose, what a command prints, and the output of words.
use Rattle.std.specs.Prelude.{◌≡◌, ℕ, false, ⊤, List, Some, Result, Ok, codes}
use Rattle.eu_io.specs.declared.shelf.FileEntry.{FileEntry}
use Rattle.law_states.specs.Undeniable.{Undeniable}
use Rattle.nddl_ast.specs.declared.declaration.FileDecls.{FileDecls}
use Rattle.nddl_parser.specs.Language.{ReadsAs}
use Rattle.nddl_parser.specs.Visits.{ReadsAll}
use Rattle.nddl_verdicts.specs.Verdicts.{HasNoVerdict}
use Rattle.plan_db.specs.Database.{Database}
use Rattle.run_commands.specs.Trying.{generated_files}
use Rattle.run_commands.specs.declared.status.RunEnd.{RunEnd}
use Rattle.run_load.specs.Posing.{PosedFault, Poses}
use Rattle.run_words.specs.declared.request.Request.{Request}
use Rattle.run_words.specs.declared.request.Request.TheVariants.{Plan, Script, Check, Show, Generate, Try}
use Rattle.run_words.specs.Requests.{Asks}
use Rattle.europa_run.specs.Output.{Given, RequestOutput, Output, is_script}

-- ---- files

-- the file is read with those that it includes, and these have no verdict
abbrev pub HasUnjudgedFiles : List FileEntry → List ℕ → Type 0
HasUnjudgedFiles files name = (read : List FileDecls) × (ReadsAll ReadsAs (Some files) name (Ok read) × HasNoVerdict read)

-- else the file poses a database, or has a first fault
abbrev pub FilesPose : Type 0
FilesPose =
    (files : List FileEntry) (name : List ℕ)
    → (HasUnjudgedFiles files name → ⊥) → Undeniable ((posed : Result Database PosedFault) × Poses files name posed)

-- ---- outputs

-- something is printed, and the run ends in some way
abbrev pub HasOutput : (List ℕ → RunEnd → Type 0) → Type 0
HasOutput Prints = (out : List ℕ) × ((end : RunEnd) × Prints out end)

-- the files that are read for what is asked for have a verdict, where it is looked for
abbrev pub HasJudgedFiles : Request (List ℕ) → Given → Type 0
HasJudgedFiles (Plan file steps tokens) given = HasUnjudgedFiles given.files file → ⊥
HasJudgedFiles (Script file) given = HasUnjudgedFiles given.files file → ⊥
HasJudgedFiles (Check file plan) given = HasUnjudgedFiles given.files file → ⊥
HasJudgedFiles (Show file) given = ⊤
HasJudgedFiles (Generate number) given = ⊤
HasJudgedFiles (Try number) given = HasUnjudgedFiles (generated_files number) (codes "gen") → ⊥

-- what words ask for that is no script has an output then
abbrev pub CommandsHaveOutputs : Type 0
CommandsHaveOutputs =
    (words : List (List ℕ)) (request : Request (List ℕ)) (given : Given)
    → Asks words request → is_script request ≡ false → HasJudgedFiles request given
    → Undeniable (HasOutput (RequestOutput request given))

-- and words have an output, whatever they are
abbrev pub WordsHaveAnOutput : Type 0
WordsHaveAnOutput =
    (words : List (List ℕ)) (given : Given)
    → ((request : Request (List ℕ)) → Asks words request → HasJudgedFiles request given)
    → Undeniable (HasOutput (Output words given))
