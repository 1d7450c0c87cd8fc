-- What a run of the program leaves: its output or, after a fault, what was written of it and what was lost.
use Rattle.std.specs.Prelude.{◌≡◌, ℕ, List, [], ◌++◌, ◌⊎◌, Some, Result, Ok, Err}
use Rattle.run_words.specs.declared.request.Request.TheVariants.{Script}
use Rattle.run_words.specs.Requests.{Asks}
use Rattle.eu_io.specs.declared.shelf.FileEntry.{FileEntry}
use Rattle.session_loop.specs.declared.fault.SessionFault.{SessionFault}
use Rattle.session_loop.specs.Ends.{Passage, input_of, begun, Ends}
use Rattle.session_loop.specs.Lines.{lines_of}
use Rattle.session_loop.specs.Sessions.{AtAnswer, Course, Session}
use Rattle.plan_db.specs.Database.{Database}
use Rattle.run_load.specs.Posing.{IsPosed}
use Rattle.run_commands.specs.declared.status.RunEnd.{RunEnd}
use Rattle.run_commands.specs.declared.status.RunEnd.TheVariants.{Done}
use Rattle.run_commands.specs.declared.status.RunFault.TheVariants.{Read, Write, Memory}
use Rattle.run_commands.specs.declared.status.Status.{Status}
use Rattle.session_core.specs.LineReplies.{AnswersLine}
use Rattle.europa_run.specs.declared.stopping.Halt.{Halt}
use Rattle.europa_run.specs.declared.stopping.Halt.TheVariants.{Outside, InSession}
use Rattle.europa_run.specs.Halts.{Calls, FailsOnce, halted_status}
use Rattle.europa_run.specs.Output.{Given, given_by, Output}
use Rattle.europa_run.specs.Steps.{Told, RunsInSteps}

-- the bytes of its input that a run left, and what it wrote
pub record Leavings : Type 0 where
  pub left : List ℕ
  pub out : List ℕ

-- nothing was written, and nothing of the input taken
abbrev pub LeavesAll : Given → Leavings → Type 0
LeavesAll given leavings = (leavings.out ≡ []) × (leavings.left ≡ given.input)

-- a front of the defined output was written, and the rest was lost
abbrev pub LosesRest : List (List ℕ) → Given → Leavings → Type 0
LosesRest words given leavings = (lost : List ℕ) × ((end : RunEnd) × Output words given (leavings.out ++ lost) end)

-- the words ask for a script of this file, which poses this database
pub record HoldsSession (words : List (List ℕ)) (given : Given) (file : List ℕ) (database : Database) : Type 0 where
  pub asks : Asks words (Script file)
  pub posed : IsPosed given.files file database

-- the words ask for a script, whose session a fault ended: what `Ends` says of it names the lines that were answered
pub record StopsScript (words : List (List ℕ)) (given : Given) (leavings : Leavings) (fault : SessionFault) : Type 0 where
  pub file : List ℕ
  pub database : Database
  pub holds : HoldsSession words given file database
  pub passage : Passage Database
  pub input : given.input ≡ input_of passage
  pub left : leavings.left ≡ passage.left
  pub out : leavings.out ≡ passage.out
  pub ends : Ends AnswersLine (begun database) passage (Err fault)

-- an answer ended the session of a script
pub record QuitsScript (words : List (List ℕ)) (given : Given) : Type 0 where
  pub file : List ℕ
  pub database : Database
  pub holds : HoldsSession words given file database
  pub course : Course Database
  pub session : Session AnswersLine (begun database) (lines_of given.input) course
  pub quits : course.ending ≡ AtAnswer

-- of a script that is done nothing of the input is left, unless an answer ended its session
abbrev pub LeavesNoInput : List (List ℕ) → Given → Leavings → Type 0
LeavesNoInput words given leavings =
    (file : List ℕ) → Asks words (Script file) → (leavings.left ≡ []) ⊎ QuitsScript words given

-- What a run leaves that ends so: the defined output. Where a read of a file failed, and where memory ran out in no session, nothing
-- was done; where a write failed in no session a front of the output was written; and a fault of a session stopped that session.
abbrev pub RunLeaves : List (List ℕ) → Given → Leavings → Result RunEnd Halt → Type 0
RunLeaves words given leavings (Ok end) =
    Output words given leavings.out end × (end ≡ Done → LeavesNoInput words given leavings)
RunLeaves words given leavings (Err (Outside Read)) = LeavesAll given leavings
RunLeaves words given leavings (Err (Outside Write)) = LosesRest words given leavings
RunLeaves words given leavings (Err (Outside Memory)) = LeavesAll given leavings
RunLeaves words given leavings (Err (InSession fault)) = StopsScript words given leavings fault

-- where all is told, this is what the run leaves
abbrev pub RunsTo : List (List ℕ) → Told → Told → Result RunEnd Halt → Type 0
RunsTo words old new ended =
    (files : List FileEntry) (input before : List ℕ)
    → old.files ≡ Some files → old.left ≡ Some input → old.written ≡ Some before
    → (leavings : Leavings) × ((new.left ≡ Some leavings.left) × (new.written ≡ Some (before ++ leavings.out))
    × RunLeaves words (given_by files input) leavings ended)

-- how the run ended, by its status: what it leaves where all is told, what it does step by step, and which of its calls failed
pub record Runs (words : List (List ℕ)) (old new : Told) (earlier later : Calls) (status : Status) : Type 0 where
  pub ended : Result RunEnd Halt
  pub is : status ≡ halted_status ended
  pub leaves : RunsTo words old new ended
  pub steps : RunsInSteps words old new ended
  pub fails : FailsOnce ended earlier later
