-- A run step by step: what is said of it by what its words are, and by what its files, its input and its output tell.
use Rattle.std.specs.Prelude.{◌≡◌, ℕ, false, List, ◌++◌, ◌⊎◌, Option, Some, Result, Ok, Err}
use Rattle.std.specs.Io.KnownBytes.{Appends}
use Rattle.run_words.specs.declared.request.Request.{Request}
use Rattle.run_words.specs.declared.request.Request.TheVariants.{Script}
use Rattle.run_words.specs.Requests.{Asks, AreNoCommand}
use Rattle.eu_io.specs.declared.shelf.FileEntry.{FileEntry}
use Rattle.session_loop.specs.declared.fault.SessionFault.{SessionFault}
use Rattle.session_loop.specs.declared.fault.SessionFault.TheVariants as session
use Rattle.session_loop.specs.declared.talk.SessionEnd.{SessionEnd}
use Rattle.session_loop.specs.Ends.{SessionTells}
use Rattle.plan_db.specs.Database.{Database}
use Rattle.run_load.specs.Posing.{IsPosed}
use Rattle.run_commands.specs.declared.status.RunEnd.{RunEnd}
use Rattle.run_commands.specs.declared.status.RunEnd.TheVariants.{Done, LinesSpent}
use Rattle.run_commands.specs.declared.status.RunFault.{RunFault}
use Rattle.run_commands.specs.declared.status.RunFault.TheVariants.{Read, Write, Memory}
use Rattle.run_commands.specs.Printed.{UsageOutput}
use Rattle.session_core.specs.LineReplies.{AnswersLine}
use Rattle.europa_run.specs.declared.stopping.Halt.{Halt}
use Rattle.europa_run.specs.Halts.{outside, in_session}
use Rattle.europa_run.specs.Output.{given_by, is_script, RequestOutput}

-- the files, the bytes that the input has left and those that the output has so far, where these are told
pub record Told : Type 0 where
  pub files : Option (List FileEntry)
  pub left : Option (List ℕ)
  pub written : Option (List ℕ)

-- ---- no session

-- the usage was appended, or where a write failed a front of it; or nothing for want of memory
abbrev pub UsagePrints : Option (List ℕ) → Option (List ℕ) → Result RunEnd RunFault → Type 0
UsagePrints old new (Ok end) = (text : List ℕ) × (Appends old new text × UsageOutput text end)
UsagePrints old new (Err Read) = ⊥
UsagePrints old new (Err Write) =
    (front lost : List ℕ) × ((end : RunEnd) × (Appends old new front × UsageOutput (front ++ lost) end))
UsagePrints old new (Err Memory) = new ≡ old

-- the output of what is asked for over these files, whatever the input is
abbrev pub IsAskedFor : Request (List ℕ) → List FileEntry → List ℕ → RunEnd → Type 0
IsAskedFor request files out end = (input : List ℕ) → RequestOutput request (given_by files input) out end

-- the output of what is asked for was appended, which isn't that of a script that is done; or where a write failed a front of it; or
-- nothing, as a read failed or memory ran out
abbrev pub AskedPrints : Request (List ℕ) → List FileEntry → Option (List ℕ) → Option (List ℕ) → Result RunEnd RunFault → Type 0
AskedPrints request files old new (Ok end) =
    (out : List ℕ) × (IsAskedFor request files out end × (Appends old new out × (end ≡ Done → is_script request ≡ false)))
AskedPrints request files old new (Err Read) = new ≡ old
AskedPrints request files old new (Err Write) =
    (front lost : List ℕ) × ((end : RunEnd) × (Appends old new front × IsAskedFor request files (front ++ lost) end))
AskedPrints request files old new (Err Memory) = new ≡ old

-- ---- sessions

-- how a script ends whose session ended so
abbrev pub ended_by : Result SessionEnd SessionFault → Result RunEnd SessionFault
ended_by (Ok end) = Ok Done
ended_by (Err session.ReadFault) = Err session.ReadFault
ended_by (Err session.WriteFault) = Err session.WriteFault
ended_by (Err session.LinesSpent) = Ok LinesSpent
ended_by (Err session.Memory) = Err session.Memory

-- the bytes that the input has left and those that the output has so far, where these are told
pub record Streams : Type 0 where
  pub left : Option (List ℕ)
  pub written : Option (List ℕ)

-- a session that begins with this database ended so
abbrev pub EditTells : Database → Streams → Streams → Result RunEnd SessionFault → Type 0
EditTells start old new ended =
    (last : Database) × ((end : Result SessionEnd SessionFault) × ((ended ≡ ended_by end)
    × SessionTells AnswersLine (record { responder = start; left = old.left; written = old.written })
    (record { responder = last; left = new.left; written = new.written }) end))

-- a script was asked for, whose file poses a database, and its session ended so
abbrev pub AskedTalks : Request (List ℕ) → List FileEntry → Streams → Streams → Result RunEnd SessionFault → Type 0
AskedTalks request files old new ended =
    (file : List ℕ) × ((database : Database) × ((request ≡ Script file) × (IsPosed files file database
    × EditTells database old new ended)))

-- ---- runs

-- what was asked for over these files was done in no session, which leaves the input as it was; or in a session
abbrev pub RunsAsked : Request (List ℕ) → List FileEntry → Told → Told → Result RunEnd Halt → Type 0
RunsAsked request files old new ended =
    ((new.left ≡ old.left) × ((done : Result RunEnd RunFault)
    × ((ended ≡ outside done) × AskedPrints request files old.written new.written done)))
    ⊎ ((done : Result RunEnd SessionFault) × ((ended ≡ in_session done)
    × AskedTalks request files (record { left = old.left; written = old.written })
    (record { left = new.left; written = new.written }) done))

-- the words were no command line, and the usage was printed, which leaves the input as it was
abbrev pub RunsUsage : Told → Told → Result RunEnd Halt → Type 0
RunsUsage old new ended =
    (new.left ≡ old.left) × ((done : Result RunEnd RunFault)
    × ((ended ≡ outside done) × UsagePrints old.written new.written done))

-- What words that are no command line come to needs nothing told; what is asked for, and how it ends, the files alone; the bytes
-- that were written, the output; and what the lines of a session were, the input.
pub record RunsInSteps (words : List (List ℕ)) (old new : Told) (ended : Result RunEnd Halt) : Type 0 where
  pub usage : AreNoCommand words → RunsUsage old new ended
  pub asked : (request : Request (List ℕ)) (files : List FileEntry)
      → Asks words request → old.files ≡ Some files → RunsAsked request files old new ended
