-- What is printed of a file that poses a database with those that it includes, or poses none.
use Rattle.std.specs.Prelude.{◌≡◌, ℕ, Bool, true, false, List, ◌⊎◌, Result, Ok, Err}
use Rattle.eu_io.specs.declared.shelf.FileEntry.{FileEntry}
use Rattle.plan_db.specs.Database.{Database}
use Rattle.run_load.specs.declared.fault.PoseFault.{PoseFault}
use Rattle.run_load.specs.declared.fault.PoseFault.TheVariants as pose
use Rattle.run_load.specs.Posing.{PosedFault, Poses}
use Rattle.run_commands.specs.declared.lines.Printed.{Printed}
use Rattle.run_commands.specs.declared.status.RunEnd.{RunEnd}
use Rattle.run_commands.specs.declared.status.RunFault.{RunFault}
use Rattle.run_commands.specs.declared.status.RunFault.TheVariants as run
use Rattle.run_commands.specs.Printed.{AnswersAs, FaultOutput}

-- what is wrong with the files first is printed, and else what is printed of the database that they pose
abbrev pub PosedOutput : List FileEntry → List ℕ → (Database → List ℕ → RunEnd → Type 0) → List ℕ → RunEnd → Type 0
PosedOutput files file DatabaseOutput out end =
    ((fault : PosedFault) × (Poses files file (Err fault) × FaultOutput fault.kind fault.file fault.at out end))
    ⊎ ((database : Database) × (Poses files file (Ok database) × DatabaseOutput database out end))

-- what is answered where files pose no database
abbrev pub IsUnposed : PoseFault → Result Printed RunFault → Type 0
IsUnposed (pose.Text kind file at) answer = AnswersAs (FaultOutput kind file at) answer
IsUnposed pose.Read answer = answer ≡ Err run.Read
IsUnposed pose.Memory answer = answer ≡ Err run.Memory

-- whether a read failed
abbrev pub is_read_fault : PoseFault → Bool
is_read_fault (pose.Text kind file at) = false
is_read_fault pose.Read = true
is_read_fault pose.Memory = false
