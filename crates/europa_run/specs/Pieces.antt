-- What the parts of a run do. The public call promises none of it.
use Rattle.std.specs.Prelude.{◌≡◌, ℕ, ◌<◌, ◌≤◌, ⊤, Bool, true, false, List, Result, Ok, Err, IfSome}
use Rattle.run_words.specs.declared.request.Request.{Request}
use Rattle.run_words.specs.declared.request.Request.TheVariants.{Plan, Script, Check, Show, Generate, Try}
use Rattle.run_words.specs.Requests.{Asks}
use Rattle.eu_io.specs.declared.shelf.FileEntry.{FileEntry}
use Rattle.run_load.specs.Posing.{Poses}
use Rattle.run_commands.specs.declared.lines.Printed.{Printed as Line}
use Rattle.run_commands.specs.declared.status.RunEnd.{RunEnd}
use Rattle.run_commands.specs.declared.status.RunEnd.TheVariants.{Done}
use Rattle.run_commands.specs.declared.status.RunFault.{RunFault}
use Rattle.run_commands.specs.declared.status.RunFault.TheVariants as run
use Rattle.europa_run.specs.declared.answering.Answer.{Answer}
use Rattle.europa_run.specs.declared.answering.Answer.TheVariants as answer
use Rattle.europa_run.specs.Output.{given_by, is_script, RequestOutput}
use Rattle.europa_run.specs.declared.stopping.Halt.{Halt}
use Rattle.europa_run.specs.Runs.{RunsTo}
use Rattle.europa_run.specs.Steps.{Told, RunsInSteps}

-- ---- requests

-- the numbers of the request are those that words can ask for
abbrev pub IsInRange : Request (List ℕ) → Type 0
IsInRange (Plan file steps tokens) = IfSome steps (λ number. 0 < number) × (tokens ≤ 512)
IsInRange (Script file) = ⊤
IsInRange (Check file plan) = ⊤
IsInRange (Show file) = ⊤
IsInRange (Generate number) = (1 ≤ number) × (number ≤ 200)
IsInRange (Try number) = (1 ≤ number) × (number ≤ 200)

-- what is printed, as an answer; or why nothing is
abbrev pub told_answer : Result Line RunFault → Result Answer RunFault
told_answer (Ok printed) = Ok (answer.Printed printed)
told_answer (Err fault) = Err fault

-- the input's lines are to be answered
abbrev pub is_session : Answer → Bool
is_session (answer.Printed printed) = false
is_session (answer.Session held) = true

-- what the request comes to over these files: its output, whatever the input, which is no end of a script that is done; or for a
-- script the database of its session
abbrev pub Comes : List FileEntry → Request (List ℕ) → Result Answer RunFault → Type 0
Comes files request (Ok (answer.Printed printed)) =
    ((input : List ℕ) → RequestOutput request (given_by files input) printed.text printed.end)
    × (printed.end ≡ Done → is_script request ≡ false)
Comes files request (Ok (answer.Session held)) =
    (file : List ℕ) × ((request ≡ Script file) × Poses files file (Ok held.database))
Comes files request (Err run.Read) = ⊤
Comes files request (Err run.Write) = ⊥
Comes files request (Err run.Memory) = ⊤

-- whatever words ask for this, this is what their run leaves
abbrev pub RunsRequest : Request (List ℕ) → Told → Told → Result RunEnd Halt → Type 0
RunsRequest request old new ended = (words : List (List ℕ)) → Asks words request → RunsTo words old new ended

-- whatever words ask for this, this is what their run does step by step
abbrev pub StepsRequest : Request (List ℕ) → Told → Told → Result RunEnd Halt → Type 0
StepsRequest request old new ended = (words : List (List ℕ)) → Asks words request → RunsInSteps words old new ended
