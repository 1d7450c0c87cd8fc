-- The statuses of runs, and the numbers with which the process ends.
use Rattle.std.specs.Prelude.{ℕ, Bool, true, false, Result, Ok, Err}
use Rattle.run_commands.specs.declared.status.RunEnd.{RunEnd}
use Rattle.run_commands.specs.declared.status.RunEnd.TheVariants as end
use Rattle.run_commands.specs.declared.status.RunFault.{RunFault}
use Rattle.run_commands.specs.declared.status.RunFault.TheVariants as fault
use Rattle.run_commands.specs.declared.status.Status.{Status}
use Rattle.run_commands.specs.declared.status.Status.TheVariants as status

-- the status of a run that ended so
abbrev pub status_of : Result RunEnd RunFault → Status
status_of (Ok end.Done) = status.Done
status_of (Ok end.Usage) = status.Usage
status_of (Ok end.Text) = status.Text
status_of (Ok end.NotAPlan) = status.NotAPlan
status_of (Ok end.LinesSpent) = status.LinesSpent
status_of (Ok end.Exhausted) = status.Exhausted
status_of (Ok end.Budget) = status.Budget
status_of (Err fault.Read) = status.ReadFault
status_of (Err fault.Write) = status.WriteFault
status_of (Err fault.Memory) = status.Memory

-- the number with which the process ends
abbrev pub exit_number : Status → ℕ
exit_number status.Done = 0
exit_number status.Usage = 2
exit_number status.Text = 3
exit_number status.NotAPlan = 5
exit_number status.LinesSpent = 6
exit_number status.Exhausted = 10
exit_number status.Budget = 11
exit_number status.ReadFault = 20
exit_number status.WriteFault = 21
exit_number status.Memory = 30

-- whether a read failed
abbrev pub is_read : {T : Type 0} → Result T RunFault → Bool
is_read (Ok done) = false
is_read (Err fault.Read) = true
is_read (Err fault.Write) = false
is_read (Err fault.Memory) = false

-- whether a write failed
abbrev pub is_write : {T : Type 0} → Result T RunFault → Bool
is_write (Ok done) = false
is_write (Err fault.Read) = false
is_write (Err fault.Write) = true
is_write (Err fault.Memory) = false

-- whether it is the status of a run that a failed read stopped
abbrev pub is_read_status : Status → Bool
is_read_status status.ReadFault = true
is_read_status other = false
