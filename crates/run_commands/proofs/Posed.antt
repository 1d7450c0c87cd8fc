-- From the database that files pose to what is printed.
use Rattle.std.proofs.Common.{ℕ, List, Result, Ok, Err, inr}
use Rattle.eu_io.specs.declared.shelf.FileEntry.{FileEntry}
use Rattle.plan_db.specs.Database.{Database}
use Rattle.run_load.specs.Posing.{Poses}
use Rattle.run_commands.specs.declared.lines.Printed.{Printed}
use Rattle.run_commands.specs.declared.status.RunEnd.{RunEnd}
use Rattle.run_commands.specs.declared.status.RunFault.{RunFault}
use Rattle.run_commands.specs.declared.status.RunFault.TheVariants.{Read, Write, Memory}
use Rattle.run_commands.specs.Printed.{AnswersAs}
use Rattle.run_commands.specs.Posing.{PosedOutput}

module _ (files : List FileEntry) (file : List ℕ) (DatabaseOutput : Database → List ℕ → RunEnd → Type 0) where
  -- what is printed of the database is printed of the files
  pub posed_output : (database : Database) (answer : Result Printed RunFault) → Poses files file (Ok database)
      → AnswersAs (DatabaseOutput database) answer → AnswersAs (PosedOutput files file DatabaseOutput) answer
  posed_output database (Ok printed) posed is = inr (database, (posed, is))
  posed_output database (Err Read) posed is = tt
  posed_output database (Err Write) posed is = absurd is
  posed_output database (Err Memory) posed is = tt
