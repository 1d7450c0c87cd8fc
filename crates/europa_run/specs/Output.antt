-- What the program prints and how its run ends, as a relation between what is asked for, the files, the input and the output.
use Rattle.std.specs.Prelude.{◌≡◌, ℕ, Bool, true, false, List, ◌⊎◌}
use Rattle.run_words.specs.declared.request.Request.{Request}
use Rattle.run_words.specs.declared.request.Request.TheVariants.{Plan, Script, Check, Show, Generate, Try}
use Rattle.run_words.specs.Requests.{Asks, AreNoCommand}
use Rattle.eu_io.specs.Files.{file_named}
use Rattle.eu_io.specs.declared.shelf.FileEntry.{FileEntry}
use Rattle.session_loop.specs.Ends.{begun}
use Rattle.session_loop.specs.Lines.{lines_of}
use Rattle.session_loop.specs.Sessions.{Ending, AtEnd, AtAnswer, AtLimit, Course, Session}
use Rattle.plan_db.specs.Database.{Database}
use Rattle.run_commands.specs.Checking.{CheckOutput}
use Rattle.run_commands.specs.Generating.{GenerateOutput}
use Rattle.run_commands.specs.Planning.{PlanOutput}
use Rattle.run_commands.specs.Posing.{PosedOutput}
use Rattle.run_commands.specs.Showing.{ShowOutput}
use Rattle.run_commands.specs.declared.status.RunEnd.{RunEnd}
use Rattle.run_commands.specs.declared.status.RunEnd.TheVariants.{Done, LinesSpent}
use Rattle.run_commands.specs.Printed.{UsageOutput}
use Rattle.run_commands.specs.Trying.{TryOutput}
use Rattle.session_core.specs.LineReplies.{AnswersLine}

-- what a run may read: the files, and the bytes of its input
pub record Given : Type 0 where
  pub files : List FileEntry
  pub input : List ℕ

-- these files and this input
abbrev pub given_by : List FileEntry → List ℕ → Given
given_by files input = record { files = files; input = input }

-- ---- scripts

-- how a script ends whose session ends so
abbrev pub end_of : Ending → RunEnd
end_of AtEnd = Done
end_of AtAnswer = Done
end_of AtLimit = LinesSpent

-- the session of the input's lines with the database
abbrev pub SessionOutput : List ℕ → Database → List ℕ → RunEnd → Type 0
SessionOutput input database out end =
    (course : Course Database) × (Session AnswersLine (begun database) (lines_of input) course
    × (out ≡ course.out) × (end ≡ end_of course.ending))

-- ---- requests

-- what is asked for gives this output and ends so
abbrev pub RequestOutput : Request (List ℕ) → Given → List ℕ → RunEnd → Type 0
RequestOutput (Plan file steps tokens) given out end = PlanOutput given.files file steps tokens out end
RequestOutput (Script file) given out end = PosedOutput given.files file (SessionOutput given.input) out end
RequestOutput (Check file plan) given out end = CheckOutput given.files file plan out end
RequestOutput (Show file) given out end = ShowOutput file (file_named file given.files) out end
RequestOutput (Generate number) given out end = GenerateOutput number out end
RequestOutput (Try number) given out end = TryOutput number out end

-- The defined output of the words: the usage where they are no command line, and else what they ask for.
abbrev pub Output : List (List ℕ) → Given → List ℕ → RunEnd → Type 0
Output words given out end =
    (AreNoCommand words × UsageOutput out end)
    ⊎ ((request : Request (List ℕ)) × (Asks words request × RequestOutput request given out end))

-- whether the lines of the input are answered
abbrev pub is_script : Request (List ℕ) → Bool
is_script (Script file) = true
is_script other = false

-- whether files are asked for
abbrev pub asks_files : Request (List ℕ) → Bool
asks_files (Generate number) = false
asks_files (Try number) = false
asks_files other = true

-- the words ask for no script
abbrev pub AsksNoScript : List (List ℕ) → Type 0
AsksNoScript words = (request : Request (List ℕ)) → Asks words request → is_script request ≡ false

-- the words ask for no file
abbrev pub AsksNoFile : List (List ℕ) → Type 0
AsksNoFile words = (request : Request (List ℕ)) → Asks words request → asks_files request ≡ false
