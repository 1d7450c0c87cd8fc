-- How a run ends that stops before its end, and which of its calls failed.
use Rattle.std.specs.Prelude.{◌≡◌, ℕ, Bool, true, false, Result, Ok, Err}
use Rattle.eu_io.specs.Faults.{counted, NoneAfter}
use Rattle.session_loop.specs.declared.fault.SessionFault.{SessionFault}
use Rattle.session_loop.specs.declared.fault.SessionFault.TheVariants as session
use Rattle.run_commands.specs.declared.status.RunEnd.{RunEnd}
use Rattle.run_commands.specs.declared.status.RunFault.{RunFault}
use Rattle.run_commands.specs.declared.status.RunFault.TheVariants.{Read, Write, Memory}
use Rattle.run_commands.specs.declared.status.Status.{Status}
use Rattle.run_commands.specs.declared.status.Status.TheVariants as status
use Rattle.run_commands.specs.Statuses.{status_of}
use Rattle.europa_run.specs.declared.stopping.Halt.{Halt}
use Rattle.europa_run.specs.declared.stopping.Halt.TheVariants.{Outside, InSession}

-- how a run ended that came to this in no session
abbrev pub outside : Result RunEnd RunFault → Result RunEnd Halt
outside (Ok end) = Ok end
outside (Err fault) = Err (Outside fault)

-- how a run ended whose session came to this
abbrev pub in_session : Result RunEnd SessionFault → Result RunEnd Halt
in_session (Ok end) = Ok end
in_session (Err fault) = Err (InSession fault)

-- the status of a run that ended so
abbrev pub halted_status : Result RunEnd Halt → Status
halted_status (Ok end) = status_of (Ok end)
halted_status (Err (Outside fault)) = status_of (Err fault)
halted_status (Err (InSession session.ReadFault)) = status.ReadFault
halted_status (Err (InSession session.WriteFault)) = status.WriteFault
halted_status (Err (InSession session.LinesSpent)) = status.LinesSpent
halted_status (Err (InSession session.Memory)) = status.Memory

-- whether a read of a file stopped the run
abbrev pub is_file_fault : Result RunEnd Halt → Bool
is_file_fault (Err (Outside Read)) = true
is_file_fault other = false

-- whether a read of the input stopped it
abbrev pub is_input_fault : Result RunEnd Halt → Bool
is_input_fault (Err (InSession session.ReadFault)) = true
is_input_fault other = false

-- whether a write stopped it
abbrev pub is_output_fault : Result RunEnd Halt → Bool
is_output_fault (Err (Outside Write)) = true
is_output_fault (Err (InSession session.WriteFault)) = true
is_output_fault other = false

-- how many calls of the shelf, of the input and of the output have failed, and whether the last one of each did
pub record Calls : Type 0 where
  pub shelf_faults : ℕ
  pub input_faults : ℕ
  pub output_faults : ℕ
  pub shelf_failed : Bool
  pub input_failed : Bool
  pub output_failed : Bool

-- A run that a failed call stopped had one failed call, of the one object that its end names, and none of that object after it. A run
-- that ended otherwise had none.
pub record FailsOnce (ended : Result RunEnd Halt) (old new : Calls) : Type 0 where
  pub shelf : new.shelf_faults ≡ counted (is_file_fault ended) old.shelf_faults
  pub input : new.input_faults ≡ counted (is_input_fault ended) old.input_faults
  pub output : new.output_faults ≡ counted (is_output_fault ended) old.output_faults
  pub last_of_shelf : NoneAfter (is_file_fault ended) new.shelf_failed
  pub last_of_input : NoneAfter (is_input_fault ended) new.input_failed
  pub last_of_output : NoneAfter (is_output_fault ended) new.output_failed
